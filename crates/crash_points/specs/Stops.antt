-- What a step leaves that stops after some of its single writes, and what a restart makes of it.
use Rattle.std.specs.Prelude.{◌≡◌, ℕ, Bool, None, List, take}
use Rattle.extents.specs.Failures.{Failures}
use Rattle.extent_groups.specs.Calls.{KeepsDrives}
use Rattle.extent_groups.specs.Missing.{IsGone}
use Rattle.unit_store.specs.declared.micro.Micro.{Micro}
use Rattle.unit_store.specs.declared.parts.Parts.{Parts}
use Rattle.unit_store.specs.Fit.{IsFit}
use Rattle.unit_store.specs.Micros.{IsWritten}
use Rattle.unit_store.specs.Slots.{missing_in}
use Rattle.unit_store.specs.Views.{view_of}
use Rattle.disk_array.specs.Refused.{OnlyLoses}
use Rattle.slot_tables.specs.Changes.{MayRefuse}
use Rattle.slot_tables.specs.Represents.{ShowsArray}
use Rattle.slot_tables.specs.Views.{ArrayView}
use Rattle.flat_machine.specs.Cases.{Case, IsAllocating, Leaves}
use Rattle.flat_machine.specs.Flat.{Flat}
use Rattle.flat_machine.specs.Restarted.{IsRestarted}
use Rattle.flat_machine.specs.Steps.{FlatAnswer, Refused}
use Rattle.header_scan.specs.Restarts.{FromFinished, IsResumeFault, WasMade}
use Rattle.header_scan.specs.declared.fault.ScanFault.{ScanFault}
use Rattle.header_scan.specs.declared.fault.ScanFault.TheVariants.{Memory, Gone}
use Rattle.header_scan.specs.Stops.{IsButLost, IsLeftByStop, IsStopped, finished_count, standing}
use Rattle.slot_tables.specs.Claims.{AreClaimsOf}
use Rattle.step_core.specs.Claims.{AreShared}
use Rattle.crash_points.specs.declared.intent.Intent.{Intent}
use Rattle.crash_points.specs.declared.stop.Unfinished.{Unfinished}
use Rattle.crash_points.specs.declared.stop.Unfinished.TheVariants.{NotBegun, NotRestarted}
use Rattle.crash_points.specs.Intents.{IsTaken, slot_of, step_of}
use Rattle.crash_points.specs.Lists.{IsStepList}

-- the array is that of before the step where nothing was carried out, and else that of after it, restarted, but for its drives
pub record IsCutShort (F : Flat) (w : ℕ) (intent : Intent) (n : ℕ) (a : ArrayView) : Type 0 where
  pub before : Flat
  pub after : Flat
  pub answer : FlatAnswer
  pub leaves : Leaves F before
  pub took : IsTaken intent answer
  pub case : Case F (step_of w intent) answer after
  pub found : Flat
  pub matches : IsButLost (standing n before after) found
  pub keys : ℕ → ℕ
  pub now : Flat
  pub restarted : IsRestarted found keys now
  pub shows : ShowsArray a now

-- the step was planned over the array a, and the first n entries of its list were carried out over the array's parts, which left
-- the parts q
pub record WasStopped {D : Type 0} (units : D → List (List ℕ)) (lost : D → Bool) (failures : D → Failures) (a : ArrayView) (F : Flat) (w : ℕ) (intent : Intent) (n : ℕ) (q : Parts D) : Type 0 where
  pub planned : ArrayView
  pub list : List Micro
  pub begun : Parts D
  pub loses : OnlyLoses a planned
  pub steps : IsStepList units lost failures planned F (slot_of intent) (step_of w intent) (IsTaken intent) list
  pub parts_are : view_of units lost failures begun ≡ planned.parts
  pub no_note : begun.note ≡ None
  pub stopped : IsStopped units lost begun q list n
  pub touched : KeepsDrives units lost failures (IsWritten (take n list)) begun.drives.items q.drives.items

-- a restart finished the note of what the stop left, if it left one, and made the array of it
abbrev pub WasResumed : {D : Type 0} → (D → List (List ℕ)) → (D → Bool) → (D → Failures) → ArrayView → Flat → ℕ → Intent → ℕ → ArrayView → Type 0
WasResumed {D} units lost failures a F w intent n made =
    (q : Parts D) × WasStopped units lost failures a F w intent n q × FromFinished units lost failures q (λ mid. WasMade units lost failures mid made)

-- the claims that the array kept are its newest places' and the others
pub record AreClaimsLeft {C : Type 0} (names : C → ℕ) (a b : ArrayView) (others : List C) : Type 0 where
  pub kept : List C
  pub of : AreClaimsOf names a kept
  pub shared : AreShared names kept b others

-- what came back where no array was restarted: the array, which lost drives at most; or all claims that it kept, with parts that fit
abbrev pub IsReturned : {D C : Type 0} → (D → List (List ℕ)) → (C → ℕ) → ArrayView → Unfinished D C → Type 0
IsReturned units names a (NotBegun refusal b) = OnlyLoses a b
IsReturned units names a (NotRestarted fault parts claims) = IsFit units parts × AreClaimsOf names a claims.items

-- why none was: the step's refusal, and memory only where its checks pass; or the fault of a restart of what the stop left
abbrev pub IsWhyNone : {D C : Type 0} → (D → List (List ℕ)) → (D → Bool) → (D → Failures) → (C → ℕ) → ArrayView → Flat → ℕ → Intent → ℕ → Unfinished D C → Type 0
IsWhyNone units lost failures names a F w intent n (NotBegun refusal b) =
    MayRefuse refusal (IsAllocating F (step_of w intent)) ((G : Flat) × Case F (step_of w intent) (Refused refusal) G × ShowsArray b G)
IsWhyNone {D} units lost failures names a F w intent n (NotRestarted fault parts claims) =
    (q : Parts D) × WasStopped units lost failures a F w intent n q × IsResumeFault units lost failures q parts names claims.items fault

-- parts from which the step can be resumed once more: they are what a stop leaves of the step's list where nothing of it was carried
-- out, or all
pub record IsResumable {D : Type 0} (units : D → List (List ℕ)) (lost : D → Bool) (failures : D → Failures) (a : ArrayView) (F : Flat) (w : ℕ) (intent : Intent) (n : ℕ) (parts : Parts D) : Type 0 where
  pub planned : ArrayView
  pub list : List Micro
  pub begun : Parts D
  pub loses : OnlyLoses a planned
  pub steps : IsStepList units lost failures planned F (slot_of intent) (step_of w intent) (IsTaken intent) list
  pub parts_are : view_of units lost failures begun ≡ planned.parts
  pub no_note : begun.note ≡ None
  pub fit : IsFit units begun
  pub left : IsLeftByStop units lost begun parts list (finished_count n list)

-- what came back where no array was restarted after a stop can be resumed
abbrev pub IsLeftOver : {D C : Type 0} → (D → List (List ℕ)) → (D → Bool) → (D → Failures) → ArrayView → Flat → ℕ → Intent → ℕ → Unfinished D C → Type 0
IsLeftOver units lost failures a F w intent n (NotBegun refusal b) = Unit {0}
IsLeftOver units lost failures a F w intent n (NotRestarted fault parts claims) = IsResumable units lost failures a F w intent n parts

-- why none was restarted after a stop: out of memory, or a slot of which geometry and the drives that are lost leave no unit
abbrev pub IsFailure : {D : Type 0} → (D → Bool) → Parts D → ScanFault → Type 0
IsFailure lost parts Memory = Unit {0}
IsFailure lost parts (Gone slot) = IsGone parts.groups (missing_in lost parts) slot
IsFailure lost parts _ = ⊥

abbrev pub MayFail : {D C : Type 0} → (D → Bool) → Unfinished D C → Type 0
MayFail lost (NotBegun refusal b) = Unit {0}
MayFail lost (NotRestarted fault parts claims) = IsFailure lost parts fault
