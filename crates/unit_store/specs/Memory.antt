-- Drives in memory, as their traits show them.
use Rattle.std.specs.Prelude.{◌≡◌, ℕ, Bool, Some, List, slice_get, slice_set}
use Rattle.extents.specs.Failures.{Failures}
use Rattle.extents.specs.Condition.{Held, is_gone, failures_of}
use Rattle.extents.specs.declared.mem_drive.Condition.{Condition}

-- the units of a drive in memory; whether it is lost; and its failures: how often it failed spontaneously, and whether it is
-- steady
abbrev pub held_units : Held → List (List ℕ)
held_units m = m.units

abbrev pub held_lost : Held → Bool
held_lost m = is_gone m.condition

abbrev pub held_failures : Held → Failures
held_failures m = failures_of m.condition

-- one drive's condition was changed, and nothing else
abbrev pub IsSetTo : (Condition → Condition) → List Held → List Held → ℕ → Type 0
IsSetTo after old new drive = (m : Held) → slice_get old drive ≡ Some m → new ≡ slice_set old drive (record m { condition = after m.condition })
