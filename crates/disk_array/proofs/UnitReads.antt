-- What a read of an array's parts leaves, stated over the array.
use Rattle.std.proofs.Common.{◌≡◌, ℕ, Bool, List, Result, IfErr, None, refl, sym, subst}
use Rattle.std.proofs.lemmas.Result.{IfErr-weaker}
use Rattle.extents.specs.Failures.{Failures}
use Rattle.extent_groups.specs.Cells.{Cells}
use Rattle.extent_groups.specs.Stores.{unit_of, AreSound, KeepsUnits}
use Rattle.flat_machine.specs.declared.refusal.Refusal.{Refusal}
use Rattle.flat_machine.specs.declared.refusal.Refusal.TheVariants.{Gone}
use Rattle.unit_store.specs.declared.parts.Parts.{Parts}
use Rattle.unit_store.specs.Fit.{IsFit}
use Rattle.unit_store.specs.Losses.{AllFare, LosesOnly}
use Rattle.unit_store.specs.Slots.{cells_in, ReportsGone}
use Rattle.unit_store.specs.Views.{view_of, drive_cells, Loses}
use Rattle.unit_store.proofs.Calls.{loses_view}
use Rattle.unit_store.proofs.Views.{view_cells}
use Rattle.slot_tables.specs.Views.{ArrayView, IsWhole}
use Rattle.disk_array.specs.declared.array.Array.TheInside.{Inside}
use Rattle.disk_array.specs.Inside.{seen, IsReady}
use Rattle.disk_array.specs.Refused.{OnlyLoses}
use Rattle.disk_array.proofs.Ready.{loses_keeps, still_whole, scratch_ready, parts_ready}
use Rattle.std.specs.Vec.{with_items}

-- a slot that was found gone
pub slot_gone : {D T : Type 0} (units : D → List (List ℕ)) (lost : D → Bool) (failures : D → Failures) (q : Parts D) (slot : ℕ) (r : Result T Refusal)
    → IfErr r (ReportsGone units lost q slot) → IfErr r (λ e. (e ≡ Gone slot) × (unit_of q.groups (drive_cells (view_of units lost failures q)) slot ≡ None))
slot_gone units lost failures q slot r reports =
    IfErr-weaker r (ReportsGone units lost q slot) (λ e. (e ≡ Gone slot) × (unit_of q.groups (drive_cells (view_of units lost failures q)) slot ≡ None))
    (λ e gone. (gone.reported, subst (λ (x : Cells). unit_of q.groups x slot ≡ None) (sym (view_cells units lost failures q)) gone.none)) reports

-- an array whose parts became q by a read
module _ {D C : Type 0} (units : D → List (List ℕ)) (lost : D → Bool) (failures : D → Failures) (a : Inside D C) (q : Parts D)
    (only : LosesOnly units lost failures a.parts q) (fares : AllFare lost failures a.parts.drives.items q.drives.items)
    (keeps : AreSound a.parts.groups (cells_in units lost a.parts) → KeepsUnits a.parts.groups (cells_in units lost a.parts) (cells_in units lost q))
    (sound : AreSound a.parts.groups (cells_in units lost a.parts) → AreSound q.groups (cells_in units lost q)) where
  left : Loses (view_of units lost failures a.parts) (view_of units lost failures q)
  left = loses_view units lost failures a.parts q only.tables fares keeps sound

  pub only_loses : (v : ArrayView) → seen units lost failures a ≡ v → OnlyLoses v (record (seen units lost failures a) { parts = view_of units lost failures q })
  only_loses v is = subst (λ (v : ArrayView). OnlyLoses v (record (seen units lost failures a) { parts = view_of units lost failures q })) is (refl, left)

  pub units_kept : (v : ArrayView) → seen units lost failures a ≡ v → AreSound v.parts.groups (drive_cells v.parts)
      → KeepsUnits v.parts.groups (drive_cells v.parts) (drive_cells (view_of units lost failures q))
  units_kept v is = subst (λ (v : ArrayView). AreSound v.parts.groups (drive_cells v.parts) → KeepsUnits v.parts.groups (drive_cells v.parts) (drive_cells (view_of units lost failures q))) is
      (λ fine. subst (λ (x : Cells). KeepsUnits a.parts.groups (drive_cells (view_of units lost failures a.parts)) x) (sym (view_cells units lost failures q))
      (subst (λ (x : Cells). KeepsUnits a.parts.groups x (cells_in units lost q)) (sym (view_cells units lost failures a.parts))
      (keeps (subst (AreSound a.parts.groups) (view_cells units lost failures a.parts) fine))))

  pub still_sound : (v : ArrayView) → seen units lost failures a ≡ v → AreSound v.parts.groups (drive_cells v.parts) → AreSound q.groups (drive_cells (view_of units lost failures q))
  still_sound v is = subst (λ (v : ArrayView). AreSound v.parts.groups (drive_cells v.parts) → AreSound q.groups (drive_cells (view_of units lost failures q))) is
      (λ fine. subst (AreSound q.groups) (sym (view_cells units lost failures q)) (sound (subst (AreSound a.parts.groups) (view_cells units lost failures a.parts) fine)))

  -- all that is always true of an array holds, with its second buffer overwritten
  pub read_matches : {Claims : Type 0} (scratch : List ℕ) → IsFit units q → IsWhole (seen units lost failures a) × Claims × IsReady units a
      → IsWhole (seen units lost failures (record a { parts = q })) × Claims × IsReady units (record a { parts = q; scratch = with_items a.scratch scratch })
  read_matches scratch fit matches = (
    still_whole units lost failures a q (loses_keeps (view_of units lost failures a.parts) (view_of units lost failures q) left) fit matches.0,
    matches.1,
    scratch_ready units lost failures a q scratch (loses_keeps (view_of units lost failures a.parts) (view_of units lost failures q) left) fit matches.2,
  )

  -- the same where no buffer was overwritten
  pub sync_matches : {Claims : Type 0} → IsFit units q → IsWhole (seen units lost failures a) × Claims × IsReady units a
      → IsWhole (seen units lost failures (record a { parts = q })) × Claims × IsReady units (record a { parts = q })
  sync_matches fit matches = (
    still_whole units lost failures a q (loses_keeps (view_of units lost failures a.parts) (view_of units lost failures q) left) fit matches.0,
    matches.1,
    parts_ready units a q only.tables.groups fit matches.2,
  )
