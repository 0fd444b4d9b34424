-- Units in memory that lie at their places.
use Rattle.std.specs.Prelude.{◌≡◌, ◌<◌, ℕ, Some, List, length, slice_get}
use Rattle.extents.specs.Condition.{Held}
use Rattle.extent_groups.specs.Cells.{Cells}

-- a drive's units lie at its addresses
abbrev pub HasDriveUnits : ℕ → List (List ℕ) → Cells → Type 0
HasDriveUnits d units c = (at : ℕ) → at < length units → c d at ≡ slice_get units at

-- the same units at a drive's addresses
abbrev pub KeepsDriveUnits : ℕ → Cells → Cells → Type 0
KeepsDriveUnits d c e = (at : ℕ) → e d at ≡ c d at

-- the units of each drive lie at its addresses
abbrev pub HasAllDriveUnits : List Held → Cells → Type 0
HasAllDriveUnits drives c = (d : ℕ) (m : Held) → slice_get drives d ≡ Some m → HasDriveUnits d m.units c
