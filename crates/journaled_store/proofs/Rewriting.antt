-- A batch that writes a unit of the drives again.
use Rattle.std.proofs.Common.{◌≡◌, ◌≢◌, ◌<◌, ◌≤◌, ◌⊎◌, inl, inr, ℕ, suc, arith, Bool, true, false, List, [], ◌∷◌, ◌++◌, length, refl, sym, ◌∙◌, ap, subst}
use Rattle.std.specs.Prelude.{Result, Ok, Err, OnOk, OnErr, slice_get, Some}
use Rattle.extent_groups.specs.declared.place.Place.{Place}
use Rattle.extent_groups.specs.Cells.{Cells}
use Rattle.extent_groups.specs.Planned.{Intended, over, after}
use Rattle.extent_groups.proofs.Finishing.{write_here, write_else}
use Rattle.extent_groups.proofs.Places.{same_or_not}
use Rattle.history.specs.Entries.{Course}
use Rattle.unit_store.specs.Views.{DriveView}
use Rattle.cached_drive.specs.Saving.{Units}
use Rattle.vault.specs.Images.{is_lost}
use Rattle.vault.proofs.Writes.{after_both}
use Rattle.journaled_store.specs.Steps.{HasDrives, IsInStep, IsUpToDate}
use Rattle.journaled_store.specs.declared.position.ScrubPosition.{ScrubPosition}
use Rattle.journaled_store.specs.Scrubbing.{HasUnit, place_at_position}

-- a unit for a position
abbrev pub write_of : ScrubPosition → List ℕ → Intended
write_of at unit = record { place = place_at_position at; unit = unit }

-- writing over a place what it holds changes nothing
same_write : (c : Cells) (at : ScrubPosition) (unit : List ℕ) → c at.drive at.address ≡ Some unit → (d a : ℕ) → after c (write_of at unit ∷ []) d a ≡ c d a
same_write c at unit holds d a = elim (same_or_not d at.drive) [
  | inl drive ↦ elim (same_or_not a at.address) [
    | inl address ↦ subst (λ x. after c (write_of at unit ∷ []) x a ≡ c x a) (sym drive) (subst (λ y. after c (write_of at unit ∷ []) at.drive y ≡ c at.drive y) (sym address)
        (write_here c (write_of at unit) ∙ ap (λ o. over o unit) holds ∙ sym holds))
    | inr ne ↦ write_else c (write_of at unit) (record { drive = d; address = a }) (λ e. ne (sym (ap (λ (p : Place). p.address) e)))
  ]
  | inr ne ↦ write_else c (write_of at unit) (record { drive = d; address = a }) (λ e. ne (sym (ap (λ (p : Place). p.drive) e)))
]

-- one drive's units aren't another's
other_write : (c : Cells) (at : ScrubPosition) (unit : List ℕ) (d a : ℕ) → d ≢ at.drive → after c (write_of at unit ∷ []) d a ≡ c d a
other_write c at unit d a ne = write_else c (write_of at unit) (record { drive = d; address = a }) (λ e. ne (sym (ap (λ (p : Place). p.drive) e)))

either : (b : Bool) → (b ≡ true) ⊎ (b ≡ false)
either true = inl refl
either false = inr refl

-- with one unit of the drives written again, a batch is as much in step as before
pub live_again : (lost : List Bool) (k : Course Units) (marks : List ℕ) (batch : List Intended) (c : Cells) (drives : List DriveView) (at : ScrubPosition) (unit : List ℕ) → at.drive < 16
    → HasUnit drives at unit → HasDrives lost drives (after c batch) → IsUpToDate lost k marks batch c → IsUpToDate lost k marks (batch ++ write_of at unit ∷ []) c
live_again lost k marks batch c drives at unit low has holds live = record {
  step = record {
    each = λ d a hired on. more d a ∙ elim (same_or_not d at.drive) [
      | inl same ↦ same_write (after c batch) at unit (held (subst (λ x. is_lost lost x ≡ false) same on)) d a
      | inr ne ↦ other_write (after c batch) at unit d a ne
    ] ∙ live.step.each d a hired on;
  };
  noted = more 16 0 ∙ other_write (after c batch) at unit 16 0 (λ e. absurd (omega (arith, e, low))) ∙ live.noted;
  rest = λ a. more 16 (suc a) ∙ other_write (after c batch) at unit 16 (suc a) (λ e. absurd (omega (arith, e, low))) ∙ live.rest a;
}
  where
    more : (d a : ℕ) → after c (batch ++ write_of at unit ∷ []) d a ≡ after (after c batch) (write_of at unit ∷ []) d a
    more d a = ap (λ (e : Cells). e d a) (after_both batch (write_of at unit ∷ []) c)

    held : is_lost lost at.drive ≡ false → after c batch at.drive at.address ≡ Some unit
    held on = holds.each at.drive at.address has.view has.there on ∙ has.unit_is

-- a write of a unit
abbrev pub write_to : Place → List ℕ → Intended
write_to place unit = record { place = place; unit = unit }

-- the same, where it was put into the batch or not
pub live_put : {E : Type 0} (lost : List Bool) (k : Course Units) (marks : List ℕ) (batch more : List Intended) (c : Cells) (drives : List DriveView) (at : ScrubPosition) (unit : List ℕ) (place : Place) (r : Result (Unit {0}) E)
    → place ≡ place_at_position at → at.drive < 16 → HasUnit drives at unit → HasDrives lost drives (after c batch) → IsUpToDate lost k marks batch c
    → OnOk r (more ≡ batch ++ write_to place unit ∷ []) → OnErr r (more ≡ batch) → IsUpToDate lost k marks more c
live_put lost k marks batch more c drives at unit place (Ok x) is low has holds live ok err =
    subst (λ (ws : List Intended). IsUpToDate lost k marks ws c) (sym (ok ∙ ap (λ (p : Place). batch ++ write_to p unit ∷ []) is)) (live_again lost k marks batch c drives at unit low has holds live)
live_put lost k marks batch more c drives at unit place (Err e) is low has holds live ok err = subst (λ (ws : List Intended). IsUpToDate lost k marks ws c) (sym err) live
