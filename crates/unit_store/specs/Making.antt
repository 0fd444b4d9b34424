-- Extents wiped one after another, for a group that is to be made of them.
use Rattle.std.specs.Prelude.{◌≡◌, ℕ, ◌/◌, ◌<◌, Bool, Some, List, length, slice_get}
use Rattle.extents.specs.Failures.{Failures}
use Rattle.flat_machine.specs.declared.refusal.Refusal.{Refusal}
use Rattle.flat_machine.specs.declared.refusal.Refusal.TheVariants.{DriveLost}
use Rattle.flat_machine.specs.Groups.{ArePresent, IsFirstLost}
use Rattle.extents.specs.Sizes.{extent_units}
use Rattle.extent_groups.specs.declared.class.Class.{Class}
use Rattle.extent_groups.specs.declared.class.Member.{Member}
use Rattle.extent_groups.specs.declared.place.Place.{Place}
use Rattle.extent_groups.specs.Cells.{Cells, cells}
use Rattle.extent_groups.specs.Calls.{SameBut, KeepsDrives}
use Rattle.extent_groups.specs.Groups.{with_group, with_owners}
use Rattle.extent_groups.specs.Stores.{unit_of}
use Rattle.extent_groups.specs.Wiping.{HasExtent, IsInExtent, HoldBelow}
use Rattle.unit_store.specs.declared.parts.Parts.{Parts}
use Rattle.unit_store.specs.Losses.{KeepsTables}
use Rattle.unit_store.specs.Slots.{cells_in, missing_in}

-- the drives have the extents of all members
abbrev pub HaveExtents : {D : Type 0} → (D → List (List ℕ)) → ℕ → List D → List Member → Type 0
HaveExtents units segments drives members = (k : ℕ) (m : Member) → slice_get members k ≡ Some m → HasExtent units segments drives m

-- every unit of the extents of the members below a number holds these bytes, those too that no slot uses
abbrev pub AreWiped : ℕ → List Member → List ℕ → ℕ → Cells → Type 0
AreWiped segments members bytes bound c = (k : ℕ) (m : Member) → k < bound → slice_get members k ≡ Some m → HoldBelow segments m bytes (extent_units segments) c

-- the place is in the extent of one of the members
abbrev pub IsInOne : ℕ → List Member → Place → Type 0
IsInOne segments members x = (k : ℕ) × (m : Member) × (slice_get members k ≡ Some m) × IsInExtent segments m x

-- one of the members is on the drive
abbrev pub HasOn : List Member → ℕ → Type 0
HasOn members d = (k : ℕ) × (m : Member) × (slice_get members k ≡ Some m) × (d ≡ m.drive)

-- the refusal names that drive
abbrev pub ReportsLost : (ℕ → Bool) → List Member → Refusal → Type 0
ReportsLost missing members refusal = (d : ℕ) × (refusal ≡ DriveLost d) × IsFirstLost missing members d

-- the extents of the members below a number were wiped with these bytes, one after another
pub record AreWipedTo {D : Type 0} (units : D → List (List ℕ)) (lost : D → Bool) (failures : D → Failures) (segments : ℕ) (members : List Member) (bytes : List ℕ) (bound : ℕ) (old new : List D) : Type 0 where
  pub wiped : AreWiped segments members bytes bound (cells units lost new)
  pub others : SameBut (HasOn members) old new
  pub touched : KeepsDrives units lost failures (IsInOne segments members) old new

-- the group was made under this number: the tables have it, it owns its extents, and no member's drive is lost. Each unit of
-- these extents holds the bytes that they were wiped with, even where no slot lies. So does each of the group's slots that has
-- a unit
pub record MadeGroup {D : Type 0} (units : D → List (List ℕ)) (lost : D → Bool) (old : Parts D) (g : ℕ) (class : Class) (members : List Member) (bytes : List ℕ) (new : Parts D) : Type 0 where
  pub made : new.groups ≡ with_group old.groups g (Some (record { class = class; members = members }))
  pub owned : new.extents ≡ with_owners old.extents members (Some g)
  pub wiped : AreWiped old.groups.segments members bytes (length members) (cells_in units lost new)
  pub present : ArePresent (missing_in lost new) members
  pub blank : (slot : ℕ) (unit : List ℕ) → slot / 128 ≡ g → unit_of new.groups (cells_in units lost new) slot ≡ Some unit → unit ≡ bytes

-- no group was made: the tables are as they were, and the refusal names the drive of the first member whose drive is lost
pub record MadeNoGroup {D : Type 0} (lost : D → Bool) (old : Parts D) (members : List Member) (new : Parts D) (refusal : Refusal) : Type 0 where
  pub tables : KeepsTables old new
  pub reported : ReportsLost (missing_in lost new) members refusal
