-- Writes of batches, made one by one.
use Rattle.std.proofs.Common.{◌≡◌, ◌≢◌, ◌+◌, ◌⊎◌, inl, inr, ℕ, zero, suc, Bool, true, false, Option, Some, None, List, [], ◌∷◌, ◌++◌, take, slice_get, refl, sym, ◌∙◌, ap, arith, eq-eqb, if◌then◌else◌}
use Rattle.std.specs.Prelude.{◌==◌, ◌&&◌, option_map}
use Rattle.std.proofs.lemmas.Bool.Decides.{nat_tests}
use Rattle.std.proofs.lemmas.Option.{same_Some, none-some}
use Rattle.extent_groups.specs.declared.place.Place.{Place}
use Rattle.extent_groups.specs.Cells.{Cells}
use Rattle.extent_groups.specs.Planned.{Intended, over, with_unit, after}
use Rattle.vault.specs.Images.{flat}

-- a write, by its place and its unit
abbrev pub write : Place → List ℕ → Intended
write place unit = record { place = place; unit = unit }

pub write_is : (o : Option Intended) (place : Place) (unit : List ℕ) → option_map (λ w. w.place) o ≡ Some place → option_map (λ w. w.unit) o ≡ Some unit → o ≡ Some (write place unit)
write_is None place unit p u = absurd (none-some place p)
write_is (Some w) place unit p u = ap (λ x. Some (write x w.unit)) (same_Some _ _ p) ∙ ap (λ x. Some (write place x)) (same_Some _ _ u)

not_equal : (a b : ℕ) → a ≢ b → (a == b) ≡ false
not_equal a b ne = grind (arith, nat_tests)

and_false : (a b : Bool) → (a ≡ false) ⊎ (b ≡ false) → (a && b) ≡ false
and_false a b (inl is) = rw is refl
and_false true b (inr is) = is
and_false false b (inr is) = refl

-- a place that isn't the write's
pub write_else : (c : Cells) (place : Place) (unit : List ℕ) (d at : ℕ) → (d ≢ place.drive) ⊎ (at ≢ place.address) → with_unit c (write place unit) d at ≡ c d at
write_else c place unit d at apart =
    ap (λ b. if b then over (c d at) unit else c d at)
    (and_false (d == place.drive) (at == place.address) (elim apart [ inl ne ↦ inl (not_equal d place.drive ne) | inr ne ↦ inr (not_equal at place.address ne) ]))

-- the write's place
pub write_here : (c : Cells) (place : Place) (unit old : List ℕ) (d at : ℕ) → d ≡ place.drive → at ≡ place.address → c d at ≡ Some old → with_unit c (write place unit) d at ≡ Some unit
write_here c place unit old d at e f is =
    ap (λ b. if b && (at == place.address) then over (c d at) unit else c d at) (eq-eqb d place.drive e)
    ∙ ap (λ b. if b then over (c d at) unit else c d at) (eq-eqb at place.address f)
    ∙ ap (λ o. over o unit) is

-- writes before others
pub after_append : (c : Cells) (ws vs : List Intended) → after c (ws ++ vs) ≡ after (after c ws) vs
after_append c [] vs = refl
after_append c (w ∷ ws) vs = after_append (with_unit c w) ws vs

write_next : (c : Cells) (ws : List Intended) (i : ℕ) (w : Intended) → slice_get ws i ≡ Some w → after c (take (suc i) ws) ≡ with_unit (after c (take i ws)) w
write_next c [] i w e = absurd (none-some w e)
write_next c (v ∷ ws) zero w e = ap (λ x. with_unit c x) (same_Some _ _ e)
write_next c (v ∷ ws) (suc i) w e = write_next (with_unit c v) ws i w e

-- one write more
pub after_more : (c : Cells) (ws : List Intended) (i : ℕ) (w : Intended) → slice_get ws i ≡ Some w → after c (take (i + 1) ws) ≡ with_unit (after c (take i ws)) w
after_more c ws i w e = let next : i + 1 ≡ suc i = omega arith in ap (λ n. after c (take n ws)) next ∙ write_next c ws i w e

batch_next : (c : Cells) (batches : List (List Intended)) (i : ℕ) (batch : List Intended) → slice_get batches i ≡ Some batch
    → after c (flat (take (suc i) batches)) ≡ after (after c (flat (take i batches))) batch
batch_next c [] i batch e = absurd (none-some batch e)
batch_next c (b ∷ bs) zero batch e = after_append c b [] ∙ ap (λ x. after c x) (same_Some _ _ e)
batch_next c (b ∷ bs) (suc i) batch e =
    after_append c b (flat (take (suc i) bs)) ∙ batch_next (after c b) bs i batch e ∙ ap (λ (x : Cells). after x batch) (sym (after_append c b (flat (take i bs))))

-- one batch more
pub after_batch : (c : Cells) (batches : List (List Intended)) (i : ℕ) (batch : List Intended) → slice_get batches i ≡ Some batch
    → after c (flat (take (i + 1) batches)) ≡ after (after c (flat (take i batches))) batch
after_batch c batches i batch e = let next : i + 1 ≡ suc i = omega arith in ap (λ n. after c (flat (take n batches))) next ∙ batch_next c batches i batch e
