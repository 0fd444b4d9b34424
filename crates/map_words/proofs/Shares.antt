-- Sums over all views, such as that of their shares.
use Rattle.std.proofs.Common.{◌≡◌, ℕ, zero, suc, ◌+◌, ◌<◌, ◌≤◌, ◌≢◌, List, [], ◌∷◌, ◌++◌, set, length, sym, ap, ◌∙◌, arith}
use Rattle.atomic_table.proofs.Lists.{set_else}
use mathlib.Core.Option.{some, some-injective, some-ne-none}
use lib.ListN.{get_elem?}
use Rattle.map_words.specs.declared.view.View.{View}
use Rattle.map_words.specs.TakeRule.{knows, total, shares}

-- an element's number is below the length
pub at_inside : {A : Type 0} (l : List A) (i : ℕ) (a : A) → get_elem? l i ≡ some a → i < length l
at_inside [] i a e = absurd (some-ne-none a (sym e))
at_inside (x ∷ xs) zero a e = omega arith
at_inside (x ∷ xs) (suc i) a e = let h : i < length xs = at_inside xs i a e in omega arith

-- one view changes
pub total_set : (f : View → ℕ) (vs : List View) (id : ℕ) (v w : View) → get_elem? vs id ≡ some v → total f (set vs id w) + f v ≡ total f vs + f w
total_set f [] id v w e = absurd (some-ne-none v (sym e))
total_set f (x ∷ xs) zero v w e = let is : f x ≡ f v = ap f (some-injective x v e) in omega arith
total_set f (x ∷ xs) (suc id) v w e = let h : total f (set xs id w) + f v ≡ total f xs + f w = total_set f xs id v w e in omega arith

-- one view comes
pub total_push : (f : View → ℕ) (vs : List View) (w : View) → total f (vs ++ w ∷ []) ≡ total f vs + f w
total_push f [] w = omega arith
total_push f (x ∷ xs) w = let h : total f (xs ++ w ∷ []) ≡ total f xs + f w = total_push f xs w in omega arith

-- no share is above all shares together
pub shares_at : (vs : List View) (id : ℕ) (v : View) → get_elem? vs id ≡ some v → v.share ≤ shares vs
shares_at [] id v e = absurd (some-ne-none v (sym e))
shares_at (x ∷ xs) zero v e = let is : x.share ≡ v.share = ap (λ (y : View). y.share) (some-injective x v e) in omega arith
shares_at (x ∷ xs) (suc id) v e = let h : v.share ≤ shares xs = shares_at xs id v e in omega arith

-- nor are two shares
pub shares_two : (vs : List View) (i j : ℕ) (v w : View) → get_elem? vs i ≡ some v → get_elem? vs j ≡ some w → j ≢ i → v.share + w.share ≤ shares vs
shares_two vs i j v w at there differ =
    let gone : shares (set vs i (knows 0 [] [])) + v.share ≡ shares vs + 0 = total_set (λ (u : View). u.share) vs i v (knows 0 [] []) at in
    let rest : w.share ≤ shares (set vs i (knows 0 [] [])) = shares_at (set vs i (knows 0 [] [])) j w (set_else vs i j (knows 0 [] []) differ ∙ there) in
    omega arith
