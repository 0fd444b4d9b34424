-- What a restart makes of parts and claims, and why it makes nothing of them.
use Rattle.std.specs.Prelude.{◌≡◌, ◌⊎◌, ℕ, ◌^◌, is_some, option_map, Bool, Some, List}
use Rattle.extents.specs.Failures.{Failures}
use Rattle.extent_groups.specs.Stores.{unit_of, AreSound}
use Rattle.unit_store.specs.declared.parts.Parts.{Parts}
use Rattle.unit_store.specs.Losses.{LosesOnly}
use Rattle.unit_store.specs.Slots.{cells_in, missing_in}
use Rattle.unit_store.specs.Notes.{IsFineNote, IsBadNote, WasFinished}
use Rattle.unit_store.specs.Views.{view_of}
use Rattle.flat_machine.specs.Cases.{Leaves}
use Rattle.flat_machine.specs.Flat.{Flat}
use Rattle.flat_machine.specs.Groups.{class_at}
use Rattle.flat_machine.specs.Restarted.{IsRestarted}
use Rattle.flat_machine.specs.Scanned.{IsScanned}
use Rattle.slot_tables.specs.Adopted.{HasParts, IsAdopted}
use Rattle.slot_tables.specs.Represents.{ShowsArray}
use Rattle.slot_tables.specs.Views.{ArrayView}
use Rattle.step_core.specs.Claims.{IsUnclaimed, IsWorkerFree}
use Rattle.step_core.specs.NotAdopted.{NotAdopted}
use Rattle.step_core.specs.NotAdopted.TheVariants as adopted
use Rattle.header_scan.specs.Faults.{between, AreFine, IsFirstFault, IsTwice}
use Rattle.header_scan.specs.declared.fault.ScanFault.{ScanFault}
use Rattle.header_scan.specs.declared.fault.ScanFault.TheVariants.{Memory, NoClaim, BadNote}

-- each slot of a group has a unit, and no other slot has one
abbrev pub HasUnits : Flat → Type 0
HasUnits F = (s : ℕ) → is_some (F.units s) ≡ is_some (class_at F.groups s)

-- every slot is sound
abbrev pub AreAllSound : {D : Type 0} → (D → List (List ℕ)) → (D → Bool) → Parts D → Type 0
AreAllSound units lost parts = AreSound parts.groups (cells_in units lost parts)

-- the parts' headers hold this map, without a fault
pub record ReportAll {D : Type 0} (units : D → List (List ℕ)) (lost : D → Bool) (parts : Parts D) (keys : ℕ → ℕ) : Type 0 where
  pub scanned : IsScanned (between 0 (2 ^ 16) (unit_of parts.groups (cells_in units lost parts))) keys
  pub fine : AreFine parts.groups 0 (2 ^ 16) (unit_of parts.groups (cells_in units lost parts))
  pub once : (b p q : ℕ) → IsTwice (between 0 (2 ^ 16) (unit_of parts.groups (cells_in units lost parts))) b p q → ⊥

-- an array was rebuilt from what the scan left of parts, with the map that their headers hold; for every state whose groups,
-- drives and units the parts are, it represents that state restarted
pub record WasMade {D : Type 0} (units : D → List (List ℕ)) (lost : D → Bool) (failures : D → Failures) (parts : Parts D) (a : ArrayView) : Type 0 where
  pub left : Parts D
  pub keys : ℕ → ℕ
  pub loses : LosesOnly units lost failures parts left
  pub adopted : IsAdopted (view_of units lost failures left) keys a
  pub reported : AreAllSound units lost parts → ReportAll units lost parts keys
  pub flat : (F : Flat) → HasParts (view_of units lost failures parts) F → HasUnits F
      → (G : Flat) × (H : Flat) × Leaves F G × IsRestarted G keys H × ShowsArray a H

-- there is a state whose groups, drives and units the parts are, and the array represents one in which nobody works
pub record RepresentsOne {D : Type 0} (units : D → List (List ℕ)) (lost : D → Bool) (failures : D → Failures) (parts : Parts D) (a : ArrayView) : Type 0 where
  pub before : Flat
  pub has : HasParts (view_of units lost failures parts) before
  pub there : HasUnits before
  pub after : Flat
  pub shows : ShowsArray a after
  pub idle : IsWorkerFree after

-- why none was: the fault of the scan; else the lowest newest place of which there is no claim
abbrev pub IsRestartFault : {D C : Type 0} → (D → List (List ℕ)) → (D → Bool) → Parts D → Parts D → (C → ℕ) → List C → ScanFault → Type 0
IsRestartFault units lost parts left names claims (NoClaim slot) = (keys : ℕ → ℕ) × ReportAll units lost parts keys × IsUnclaimed names claims keys slot
IsRestartFault units lost parts left names claims fault =
    IsFirstFault parts.groups 0 (2 ^ 16) (unit_of parts.groups (cells_in units lost parts)) (unit_of parts.groups (cells_in units lost left)) fault

-- there is no note or a good one, and this is true of the parts once it is finished, which are what the scan reads
abbrev pub FromFinished : {D : Type 0} → (D → List (List ℕ)) → (D → Bool) → (D → Failures) → Parts D → (Parts D → Type 0) → Type 0
FromFinished {D} units lost failures parts P =
    IsFineNote parts.groups (missing_in lost parts) parts.note × ((mid : Parts D) × WasFinished units lost failures parts mid × P mid)

-- why no array was made of parts that may have a note: a bad note, and then they are as they were; else the fault of the parts
-- with the note finished
abbrev pub IsResumeFault : {D C : Type 0} → (D → List (List ℕ)) → (D → Bool) → (D → Failures) → Parts D → Parts D → (C → ℕ) → List C → ScanFault → Type 0
IsResumeFault units lost failures parts left names claims fault =
    ((slot : ℕ) × (fault ≡ BadNote slot) × IsBadNote parts.groups (missing_in lost parts) parts.note × (option_map (λ n. n.slot) parts.note ≡ Some slot) × (left ≡ parts))
    ⊎ FromFinished units lost failures parts (λ mid. (AreAllSound units lost mid → IsRestartFault units lost mid left names claims fault) × LosesOnly units lost failures mid left)

-- the fault that says why no array was put together
abbrev pub fault_of : NotAdopted → ScanFault
fault_of adopted.Memory = Memory
fault_of (adopted.NoClaim slot) = NoClaim slot
