-- Sums over all views, such as that of their shares.
use Rattle.std.proofs.Common.{◌≡◌, ℕ, zero, suc, ◌+◌, ◌≢◌, List, [], ◌∷◌, ◌++◌, set, sym, ap, ◌∙◌, arith}
use Rattle.atomic_table.proofs.Lists.{set_else}
use mathlib.Core.Option.{some, some-injective, some-ne-none}
use lib.ListN.{get_elem?}
use Rattle.slot_words.specs.declared.view.View.{View}
use Rattle.slot_words.specs.ClaimRule.{total}

-- one view changes
pub total_set : (f : View → ℕ) (vs : List View) (id : ℕ) (v w : View) → get_elem? vs id ≡ some v → total f (set vs id w) + f v ≡ total f vs + f w
total_set f [] id v w e = absurd (some-ne-none v (sym e))
total_set f (x ∷ xs) zero v w e = let is : f x ≡ f v = ap f (some-injective x v e) in omega arith
total_set f (x ∷ xs) (suc id) v w e = let h : total f (set xs id w) + f v ≡ total f xs + f w = total_set f xs id v w e in omega arith

-- one view comes
pub total_push : (f : View → ℕ) (vs : List View) (w : View) → total f (vs ++ w ∷ []) ≡ total f vs + f w
total_push f [] w = omega arith
total_push f (x ∷ xs) w = let h : total f (xs ++ w ∷ []) ≡ total f xs + f w = total_push f xs w in omega arith

-- two views become one, and the other is spent
pub total_both : (f : View → ℕ) (vs : List View) (id other : ℕ) (v w both spent : View) → get_elem? vs id ≡ some v → other ≢ id → get_elem? vs other ≡ some w
    → f both ≡ f v + f w → f spent ≡ 0 → total f (set (set vs id both) other spent) ≡ total f vs
total_both f vs id other v w both spent here differ there sum none =
    let one = total_set f vs id v both here in
    let two = total_set f (set vs id both) other w spent (set_else vs id other both differ ∙ there) in
    omega arith
