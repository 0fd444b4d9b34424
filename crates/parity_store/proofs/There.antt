-- A way that was found is of a slot that isn't gone.
use Rattle.std.proofs.Common.{◌≡◌, ◌≢◌, ℕ, inl, inr, Bool, Some, None, List, length, refl, sym, ◌∙◌, ap, subst}
use Rattle.std.specs.Prelude.{slice_get}
use Rattle.std.proofs.lemmas.Option.{same_Some, none-some, slice_get_within}
use Rattle.extent_groups.specs.declared.place.Place.{Place}
use Rattle.extent_groups.specs.Groups.{Groups}
use Rattle.extent_groups.specs.Cells.{Cells, cells}
use Rattle.extent_groups.specs.Units.{InStripe, held_in, row_of, site_of}
use Rattle.extent_groups.specs.Missing.{missing_of, IsGoneAt, IsGone}
use Rattle.extent_groups.proofs.Missing.{cell_missing}
use Rattle.extent_groups.proofs.Places.{same_or_not}
use Rattle.extent_groups.proofs.Totals.{total_missing}
use Rattle.parity_store.specs.declared.way.Way.{Way}
use Rattle.parity_store.specs.declared.way.Way.TheVariants.{Both, Alone, Parity, Missed}
use Rattle.parity_store.specs.Ways.{bare}
use Rattle.parity_store.specs.Drafts.{IsDraft}
use Rattle.parity_store.proofs.Sums.{bare_other}
use Rattle.parity_store.specs.Targets.{IsHome}

module _ {D : Type 0} (units : D → List (List ℕ)) (lost : D → Bool) (ds : List D) (n : ℕ) (row : List Place) (p i : ℕ) (home parity : Place) (u s : List ℕ) (h : IsHome row p i home parity) where
  abbrev all : Cells
  all = cells units lost ds

  -- the way's places hold what it needs, and a gone site's don't
  there_at : (way : Way) → way ≢ Missed → IsDraft n all row p i home parity u s way → IsGoneAt (missing_of lost ds) (InStripe row p i) → ⊥
  there_at Both found draft gone = none-some draft.0
      (sym (ap (held_in all) gone.0.1 ∙ cell_missing units lost (slice_get ds gone.0.0.drive) gone.0.0.address gone.0.2) ∙ ap (held_in all) h.home_is ∙ draft.2)
  there_at Alone found draft gone = none-some draft.0
      (sym (ap (held_in all) gone.0.1 ∙ cell_missing units lost (slice_get ds gone.0.0.drive) gone.0.0.address gone.0.2) ∙ ap (held_in all) h.home_is ∙ draft.1)
  there_at Parity found draft gone =
      let other = gone.1 in
      let lacks : row_of all row other.0 ≡ None = ap (held_in all) other.3 ∙ cell_missing units lost (slice_get ds other.1.drive) other.1.address other.4 in
      elim (same_or_not other.0 p) [
        | inl e ↦ draft.2 (sym (ap (held_in all) h.parity_is) ∙ ap (row_of all row) (sym e) ∙ lacks)
        | inr ne ↦ none-some draft.0
            (sym (total_missing n (length row) other.0 (bare n (row_of all row) i p) (slice_get_within row other.0 other.1 other.3) (bare_other n (row_of all row) i p other.0 other.2 ne ∙ lacks)) ∙ draft.3)
      ]
  there_at Missed found draft gone = absurd (found refl)

  pub way_there : (t : Groups) (slot : ℕ) (way : Way) → site_of t slot ≡ Some (InStripe row p i) → way ≢ Missed → IsDraft n all row p i home parity u s way → IsGone t (missing_of lost ds) slot → ⊥
  way_there t slot way at found draft gone = there_at way found draft (subst (IsGoneAt (missing_of lost ds)) (same_Some _ _ (sym gone.1 ∙ at)) gone.2)
