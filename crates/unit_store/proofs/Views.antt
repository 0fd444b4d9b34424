-- The parts as plain data show what the parts themselves show.
use Rattle.std.proofs.Common.{◌≡◌, ℕ, ◌*◌, ◌<◌, Bool, Option, Some, None, List, length, refl, sym, ◌∙◌, ap, subst}
use Rattle.std.specs.Prelude.{slice_get}
use Rattle.std.specs.Option.{option_map}
use Rattle.std.proofs.lemmas.List.{length-map}
use Rattle.std.proofs.lemmas.Option.{same_Some, slice_get-map}
use Rattle.extents.specs.Failures.{Failures}
use Rattle.extents.specs.Sizes.{extent_units}
use Rattle.extents.specs.Units.{AreUnitsSized}
use Rattle.extent_groups.specs.Stores.{AreDrives, unit_bytes}
use Rattle.extent_groups.specs.Cells.{cell}
use Rattle.extent_groups.specs.Missing.{is_missing}
use Rattle.flat_machine.specs.Cases.{Fares}
use Rattle.unit_store.specs.declared.parts.Parts.{Parts}
use Rattle.unit_store.specs.Losses.{AllFare, failures_at, failures_by_drive}
use Rattle.unit_store.specs.Slots.{cells_in, missing_in}
use Rattle.unit_store.specs.Views.{DriveView, drive_units, drive_lost, drive_failures, drive_view, view_of, drive_cells, lost_of, failed_of, DrivesFare}

cell_same : {D : Type 0} (units : D → List (List ℕ)) (lost : D → Bool) (failures : D → Failures) (o : Option D) (at : ℕ)
    → cell drive_units drive_lost (option_map (drive_view units lost failures) o) at ≡ cell units lost o at
cell_same units lost failures None at = refl
cell_same units lost failures (Some d) at = refl

missing_same : {D : Type 0} (units : D → List (List ℕ)) (lost : D → Bool) (failures : D → Failures) (o : Option D)
    → is_missing drive_lost (option_map (drive_view units lost failures) o) ≡ is_missing lost o
missing_same units lost failures None = refl
missing_same units lost failures (Some d) = refl

failures_same : {D : Type 0} (units : D → List (List ℕ)) (lost : D → Bool) (failures : D → Failures) (o : Option D)
    → failures_at drive_failures (option_map (drive_view units lost failures) o) ≡ failures_at failures o
failures_same units lost failures None = refl
failures_same units lost failures (Some d) = refl

-- what the drives hold
pub view_cells : {D : Type 0} (units : D → List (List ℕ)) (lost : D → Bool) (failures : D → Failures) (p : Parts D) → drive_cells (view_of units lost failures p) ≡ cells_in units lost p
view_cells units lost failures p = λ i d at. same d at i
  where
    same : (d at : ℕ) → drive_cells (view_of units lost failures p) d at ≡ cells_in units lost p d at
    same d at = ap (λ o. cell drive_units drive_lost o at) (slice_get-map (drive_view units lost failures) p.drives.items d)
        ∙ cell_same units lost failures (slice_get p.drives.items d) at

-- which are lost
pub view_lost : {D : Type 0} (units : D → List (List ℕ)) (lost : D → Bool) (failures : D → Failures) (p : Parts D) → lost_of (view_of units lost failures p) ≡ missing_in lost p
view_lost units lost failures p = λ i d. same d i
  where
    same : (d : ℕ) → lost_of (view_of units lost failures p) d ≡ missing_in lost p d
    same d = ap (is_missing drive_lost) (slice_get-map (drive_view units lost failures) p.drives.items d) ∙ missing_same units lost failures (slice_get p.drives.items d)

-- how often each had a failure of its own
pub view_failures : {D : Type 0} (units : D → List (List ℕ)) (lost : D → Bool) (failures : D → Failures) (p : Parts D) → failed_of (view_of units lost failures p) ≡ failures_by_drive failures p.drives.items
view_failures units lost failures p = λ i d. same d i
  where
    same : (d : ℕ) → failed_of (view_of units lost failures p) d ≡ failures_by_drive failures p.drives.items d
    same d = ap (failures_at drive_failures) (slice_get-map (drive_view units lost failures) p.drives.items d) ∙ failures_same units lost failures (slice_get p.drives.items d)

-- how many there are
pub view_length : {D : Type 0} (units : D → List (List ℕ)) (lost : D → Bool) (failures : D → Failures) (p : Parts D) → length (view_of units lost failures p).drives ≡ length p.drives.items
view_length units lost failures p = length-map p.drives.items (drive_view units lost failures)

-- and how all fare
pub view_fares : {D : Type 0} (units : D → List (List ℕ)) (lost : D → Bool) (failures : D → Failures) (p q : Parts D) → AllFare lost failures p.drives.items q.drives.items
    → DrivesFare (view_of units lost failures p) (view_of units lost failures q)
view_fares units lost failures p q fares = record {
  many = view_length units lost failures q ∙ fares.many ∙ sym (view_length units lost failures p);
  each = λ d.
      let was = ap (λ f. f d) (view_lost units lost failures p) in
      let is = ap (λ f. f d) (view_lost units lost failures q) in
      let before = ap (λ f. f d) (view_failures units lost failures p) in
      let after = ap (λ f. f d) (view_failures units lost failures q) in
      let one : Fares (lost_of (view_of units lost failures p) d) (missing_in lost q d) (failures_by_drive failures p.drives.items d) (failures_by_drive failures q.drives.items d) =
      subst (λ x. Fares x (missing_in lost q d) (failures_by_drive failures p.drives.items d) (failures_by_drive failures q.drives.items d)) (sym was) (fares.each d) in
      let two : Fares (lost_of (view_of units lost failures p) d) (lost_of (view_of units lost failures q) d) (failures_by_drive failures p.drives.items d) (failures_by_drive failures q.drives.items d) =
      subst (λ x. Fares (lost_of (view_of units lost failures p) d) x (failures_by_drive failures p.drives.items d) (failures_by_drive failures q.drives.items d)) (sym is) one in
      let three : Fares (lost_of (view_of units lost failures p) d) (lost_of (view_of units lost failures q) d) (failed_of (view_of units lost failures p) d) (failures_by_drive failures q.drives.items d) =
      subst (λ x. Fares (lost_of (view_of units lost failures p) d) (lost_of (view_of units lost failures q) d) x (failures_by_drive failures q.drives.items d)) (sym before) two in
      subst (λ x. Fares (lost_of (view_of units lost failures p) d) (lost_of (view_of units lost failures q) d) (failed_of (view_of units lost failures p) d) x) (sym after) three;
}

-- and they have the units of the sizes
view_drive : {D : Type 0} (units : D → List (List ℕ)) (lost : D → Bool) (failures : D → Failures) (o : Option D) (x : DriveView) (P : List (List ℕ) → Type 0)
    → ((y : D) → o ≡ Some y → P (units y)) → option_map (drive_view units lost failures) o ≡ Some x → P x.units
view_drive units lost failures None x P all is = absurd (cc)
view_drive units lost failures (Some y) x P all is = subst (λ (z : DriveView). P z.units) (same_Some _ _ is) (all y refl)

pub view_drives : {D : Type 0} (units : D → List (List ℕ)) (lost : D → Bool) (failures : D → Failures) (p : Parts D) → AreDrives units p.groups p.drives.items
    → AreDrives drive_units p.groups (view_of units lost failures p).drives
view_drives units lost failures p are = record {
  many = λ d x at. view_drive units lost failures (slice_get p.drives.items d) x (λ us. length us ≡ p.groups.extents * extent_units p.groups.segments) (are.many d) (found d x at);
  sized = λ d x at. view_drive units lost failures (slice_get p.drives.items d) x (AreUnitsSized (unit_bytes p.groups)) (are.sized d) (found d x at);
  there = λ g k m at. let is = are.there g k m at in (subst (λ n. m.drive < n) (sym (view_length units lost failures p)) is.0, is.1);
}
  where
    found : (d : ℕ) (x : DriveView) → slice_get (view_of units lost failures p).drives d ≡ Some x → option_map (drive_view units lost failures) (slice_get p.drives.items d) ≡ Some x
    found d x at = sym (slice_get-map (drive_view units lost failures) p.drives.items d) ∙ at
