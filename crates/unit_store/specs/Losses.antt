-- What may happen to drives whose units are read and written: some may be lost.
use Rattle.std.specs.Prelude.{◌≡◌, ℕ, Bool, true, Option, Some, None, List, length, slice_get, slice_set}
use Rattle.extents.specs.Failures.{Failures, no_failures, settled}
use Rattle.extent_groups.specs.Calls.{NoPlace, KeepsDrives}
use Rattle.extent_groups.specs.Missing.{missing_of}
use Rattle.flat_machine.specs.Cases.{Fares}
use Rattle.unit_store.specs.declared.parts.Parts.{Parts}

-- the failures of what may be a drive: none, and steady, where there is none
abbrev pub failures_at : {D : Type 0} → (D → Failures) → Option D → Failures
failures_at failures None = no_failures
failures_at failures (Some drive) = failures drive

-- the failures of each of the drives, by number
abbrev pub failures_by_drive : {D : Type 0} → (D → Failures) → List D → ℕ → Failures
failures_by_drive failures drives drive = failures_at failures (slice_get drives drive)

-- how all drives fare: there are as many as before. A lost drive stays lost, a drive that fails counts one failure more, and
-- a steady drive doesn't fail and stays steady
pub record AllFare {D : Type 0} (lost : D → Bool) (failures : D → Failures) (old new : List D) : Type 0 where
  pub many : length new ≡ length old
  pub each : (d : ℕ) → Fares (missing_of lost old d) (missing_of lost new d) (failures_by_drive failures old d) (failures_by_drive failures new d)

-- nothing but the drives changed, and no note was set or cleared
pub record KeepsTables {D : Type 0} (old new : Parts D) : Type 0 where
  pub shape : new.shape ≡ old.shape
  pub groups : new.groups ≡ old.groups
  pub extents : new.extents ≡ old.extents
  pub note : new.note ≡ old.note

-- nothing changed but which drives are lost
pub record LosesOnly {D : Type 0} (units : D → List (List ℕ)) (lost : D → Bool) (failures : D → Failures) (old new : Parts D) : Type 0 where
  pub tables : KeepsTables old new
  pub drives : KeepsDrives units lost failures NoPlace old.drives.items new.drives.items

-- one drive was lost from outside: its units stay, no failure of its own is counted, and none lies ahead; the other drives stay
abbrev pub LosesDrive : {D : Type 0} → (D → List (List ℕ)) → (D → Bool) → (D → Failures) → List D → List D → ℕ → Type 0
LosesDrive {D = D} units lost failures old new drive = (m : D) → slice_get old drive ≡ Some m
    → (k : D) × (new ≡ slice_set old drive k) × (units k ≡ units m) × (lost k ≡ true) × (failures k ≡ settled (failures m))
