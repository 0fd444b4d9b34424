-- Of writes that are made from the last one on back, each place's last one is enough.
use Rattle.std.proofs.Common.{◌≡◌, ◌≤◌, ◌<◌, ◌⊎◌, inl, inr, ℕ, zero, suc, ◌+◌, ◌*◌, ◌/◌, ◌%◌, Bool, true, false, Some, List, [], ◌∷◌, ◌++◌, sym, ◌∙◌, ap, subst, arith, length, drop}
use Rattle.std.specs.Prelude.{◌↔◌, slice_get, slice_set}
use Rattle.std.proofs.lemmas.Bool.{true≢false}
use Rattle.std.proofs.lemmas.Option.{none-some, same_Some}
use Rattle.extent_groups.specs.declared.place.Place.{Place}
use Rattle.extent_groups.specs.Cells.{Cells}
use Rattle.extent_groups.specs.Planned.{Intended, with_unit, after}
use Rattle.extent_groups.proofs.Finishing.{write_else}
use Rattle.extent_groups.proofs.Places.{get-set_same, get-set_other, same_or_not}
use Rattle.vault.specs.Images.{SameOn, flat, is_lost}
use Rattle.vault.specs.Moments.{IsWrittenTo}
use Rattle.vault.specs.Marks.{Has, HasPlaces, spot}
use Rattle.vault.proofs.Writes.{again, first_or_last, same_here}

-- two places of one spot
same_spot : (x y : Place) → x.drive ≤ 16 → y.drive ≤ 16 → spot x ≡ spot y → x ≡ y
same_spot x y low also same =
    let at : x.address ≡ y.address = omega (arith, low, also, same) in
    let on : x.drive ≡ y.drive = omega (arith, low, also, same) in
    ap (λ e. let q : Place = record { drive = e; address = x.address } in q) on ∙ ap (λ e. let q : Place = record { drive = y.drive; address = e } in q) at

-- a place more in the set
pub put_more : (marks : List Bool) (place : Place) → place.drive ≤ 16 → spot place < length marks → (x : Place) → Has (slice_set marks (spot place) true) x ↔ (Has marks x ⊎ (place ≡ x))
put_more marks place low room x = (
  (λ has. elim (same_or_not (spot x) (spot place)) [
    | inl is ↦ inr (same_spot place x low has.0 (sym is))
    | inr ne ↦ inl (has.0, sym (get-set_other marks (spot place) (spot x) true ne) ∙ has.1)
  ]),
  (λ one. elim one [
    | inl has ↦ elim (same_or_not (spot x) (spot place)) [
      | inl is ↦ (has.0, subst (λ n. slice_get (slice_set marks (spot place) true) n ≡ Some true) (sym is) (get-set_same marks (spot place) true room))
      | inr ne ↦ (has.0, get-set_other marks (spot place) (spot x) true ne ∙ has.1)
    ]
    | inr is ↦ subst (λ y. Has (slice_set marks (spot place) true) y) is (low, get-set_same marks (spot place) true room)
  ]),
)

-- a place out of the set
pub take_out : (marks : List Bool) (place : Place) → place.drive ≤ 16 → spot place < length marks → (x : Place) → Has (slice_set marks (spot place) false) x ↔ (Has marks x × (place ≡ x → ⊥))
take_out marks place low room x = (
  (λ has. elim (same_or_not (spot x) (spot place)) [
    | inl is ↦ absurd (true≢false (sym (same_Some _ _ (sym (get-set_same marks (spot place) false room) ∙ ap (slice_get (slice_set marks (spot place) false)) (sym is) ∙ has.1))))
    | inr ne ↦ ((has.0, sym (get-set_other marks (spot place) (spot x) false ne) ∙ has.1), λ same. ne (ap spot (sym same)))
  ]),
  (λ both. (both.0.0, get-set_other marks (spot place) (spot x) false (λ is. both.1 (same_spot place x low both.0.0 (sym is))) ∙ both.0.1)),
)

-- a mark is that of a place
pub marked_place : (marks : List Bool) (s : ℕ) → slice_get marks s ≡ Some true → (x : Place) × ((x.drive ≤ 16) × (slice_get marks (spot x) ≡ Some true))
marked_place marks s e =
    let x : Place = record { drive = s % 17; address = s / 17 } in
    let back : s ≡ s / 17 * 17 + s % 17 = omega arith in
    (x, (omega arith, subst (λ k. slice_get marks k ≡ Some true) back e))

-- the places of no writes, and of one more before others
pub no_places : (marks : List Bool) → marks ≡ [] → HasPlaces marks []
no_places marks none x = ((λ has. none-some true (subst (λ (l : List Bool). slice_get l (spot x) ≡ Some true) none has.1)), (λ written. absurd written))

pub places_again : (marks : List Bool) (w : Intended) (later : List Intended) → HasPlaces marks later → Has marks w.place → HasPlaces marks (w ∷ later)
places_again marks w later are has x = (
  (λ one. inr ((are x).0 one)),
  (λ written. elim written [ inl is ↦ subst (Has marks) is has | inr more ↦ (are x).1 more ]),
)

pub places_more : (marks more : List Bool) (w : Intended) (later : List Intended) → HasPlaces marks later → ((x : Place) → Has more x ↔ (Has marks x ⊎ (w.place ≡ x))) → HasPlaces more (w ∷ later)
places_more marks more w later are put x = (
  (λ one. elim ((put x).0 one) [ inl has ↦ inr ((are x).0 has) | inr is ↦ inl is ]),
  (λ written. (put x).1 (elim written [ inl is ↦ inr is | inr also ↦ inl ((are x).1 also) ])),
)

module _ (lost : List Bool) (w : Intended) (later : List Intended) (base now : Cells) where
  -- a write of a place that has a later one isn't made
  pub made_again : IsWrittenTo later w.place → SameOn lost now (after base later) → SameOn lost now (after base (w ∷ later))
  made_again written so_far x live = so_far x live ∙ sym (again w later base x written)

  -- a write for a lost drive isn't made
  pub made_lost : is_lost lost w.place.drive ≡ true → SameOn lost now (after base later) → SameOn lost now (after base (w ∷ later))
  made_lost gone so_far x live =
      so_far x live ∙ sym (same_here later (with_unit base w) base x (write_else base w x (λ e. true≢false (sym gone ∙ ap (λ (q : Place). is_lost lost q.drive) e ∙ live))))

  -- another one is made
  pub made_now : (next : Cells) → (IsWrittenTo later w.place → ⊥) → SameOn lost now (after base later) → SameOn lost next (with_unit now w) → SameOn lost next (after base (w ∷ later))
  made_now next never so_far written x live =
      written x live ∙ same_here (w ∷ []) now (after base later) x (so_far x live) ∙ sym (first_or_last w later base x never)

-- the items from one on
pub drop_at : {A : Type 0} (xs : List A) (k : ℕ) (x : A) → slice_get xs k ≡ Some x → drop k xs ≡ x ∷ drop (suc k) xs
drop_at [] k x at = absurd (none-some x at)
drop_at (first ∷ xs) zero x at = ap (λ y. y ∷ xs) (same_Some first x at)
drop_at (first ∷ xs) (suc k) x at = drop_at xs k x at

-- the batches from one on
pub flat_at : (batches : List (List Intended)) (k : ℕ) (b : List Intended) → slice_get batches k ≡ Some b → flat (drop k batches) ≡ b ++ flat (drop (suc k) batches)
flat_at batches k b at = ap flat (drop_at batches k b at)
