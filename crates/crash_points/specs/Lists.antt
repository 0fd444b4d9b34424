-- The lists of single writes that steps are planned as.
use Rattle.std.specs.Prelude.{◌≡◌, ℕ, Bool, Some, None, List, option_map, take}
use Rattle.extents.specs.Failures.{Failures}
use Rattle.extents.specs.Header.{header_bytes}
use Rattle.extents.specs.declared.shape.TheConstants.{HEADER_BYTES}
use Rattle.extent_groups.specs.Planned.{Intended}
use Rattle.flat_machine.specs.Cases.{Case, IsAllocating, Leaves}
use Rattle.flat_machine.specs.Flat.{Flat, Stored, put}
use Rattle.flat_machine.specs.Steps.{FlatStep, FlatAnswer}
use Rattle.unit_store.specs.declared.micro.Micro.{Micro}
use Rattle.unit_store.specs.declared.note.Note.{Note}
use Rattle.unit_store.specs.declared.parts.Parts.{Parts}
use Rattle.unit_store.specs.Fit.{IsFit}
use Rattle.unit_store.specs.Micros.{AreWrites}
use Rattle.unit_store.specs.Notes.{IsSlotPlan}
use Rattle.unit_store.specs.Views.{PartsView, view_of, drive_cells}
use Rattle.slot_tables.specs.Represents.{ShowsArray}
use Rattle.slot_tables.specs.Views.{ArrayView}
use Rattle.header_scan.specs.Stops.{IsMicro, IsNotedList}

-- a list that gives a slot a unit, over these parts: a note of the slot with the unit, and with the parity that is planned; the
-- writes of the slot's plan; the note cleared
pub record IsUnitList (v : PartsView) (slot : ℕ) (unit : List ℕ) (list : List Micro) : Type 0 where
  pub note : Note
  pub writes : List Intended
  pub of : note.slot ≡ slot
  pub holds : note.unit.items ≡ unit
  pub listed : IsNotedList note writes list
  pub plan : IsSlotPlan v.groups (drive_cells v) slot unit writes (option_map (λ x. x.items) note.parity)

-- the list of a step from the state F, over an array whose drives may have been found lost: it gives the step's slot a unit, whose
-- header is written in the second layout, and leads from a state that the array shows to the state of after the step, as the flat
-- machine takes it, with the same drives
pub record IsStepList {D : Type 0} (units : D → List (List ℕ)) (lost : D → Bool) (failures : D → Failures) (a : ArrayView) (F : Flat) (slot : ℕ) (step : FlatStep) (taken : FlatAnswer → Type 0) (list : List Micro) : Type 0 where
  pub before : Flat
  pub after : Flat
  pub answer : FlatAnswer
  pub bytes : List ℕ
  pub unit : Stored
  pub expected : IsAllocating F step
  pub leaves : Leaves F before
  pub shows : ShowsArray a before
  pub took : taken answer
  pub case : Case F step answer after
  pub lost_are : after.lost ≡ before.lost
  pub failures_are : after.failures ≡ before.failures
  pub listed : IsUnitList a.parts slot bytes list
  pub front : take HEADER_BYTES bytes ≡ header_bytes unit.header
  pub given : after.units ≡ put before.units slot (Some unit)
  pub micro : (p : Parts D) → view_of units lost failures p ≡ a.parts → p.note ≡ None → IsMicro units lost p before after list

-- the list can be carried out over the array's parts
abbrev pub CanRun : {D : Type 0} → (D → List (List ℕ)) → (D → Bool) → (D → Failures) → ArrayView → List Micro → Type 0
CanRun {D} units lost failures a list = (p : Parts D) → view_of units lost failures p ≡ a.parts → IsFit units p → AreWrites units p list

-- the list gives the slot some unit
abbrev pub IsListFor : PartsView → ℕ → List Micro → Type 0
IsListFor v slot list = (bytes : List ℕ) × IsUnitList v slot bytes list
