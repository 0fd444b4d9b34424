-- What a call leaves of an array's slots and drives.
use Rattle.std.specs.Prelude.{◌≡◌, ◌≢◌, ℕ, ◌/◌, Bool, Some, List}
use Rattle.extents.specs.Failures.{Failures}
use Rattle.extent_groups.specs.declared.place.Place.{Place}
use Rattle.extent_groups.specs.Calls.{SameBut, KeepsDrives}
use Rattle.extent_groups.specs.Stores.{unit_of, AreSound, IsOwnOf}
use Rattle.unit_store.specs.declared.parts.Parts.{Parts}
use Rattle.unit_store.specs.Losses.{AllFare}
use Rattle.unit_store.specs.Slots.{cells_in}

-- every slot
abbrev pub EachSlot : ℕ → Type 0
EachSlot slot = Unit {0}

-- a slot of another group
abbrev pub IsOutside : ℕ → ℕ → Type 0
IsOutside group slot = slot / 128 ≢ group

-- if all slots were sound before the call, all are sound after it. Then each of these slots that has a unit after the call had
-- the same unit before it
pub record KeepsSlots {D : Type 0} (units : D → List (List ℕ)) (lost : D → Bool) (these : ℕ → Type 0) (old new : Parts D) : Type 0 where
  pub unchanged : AreSound old.groups (cells_in units lost old) → (slot : ℕ) (unit : List ℕ) → these slot
      → unit_of new.groups (cells_in units lost new) slot ≡ Some unit → unit_of old.groups (cells_in units lost old) slot ≡ Some unit
  pub sound : AreSound old.groups (cells_in units lost old) → AreSound new.groups (cells_in units lost new)

-- the call changes units only at these places, and uses only these drives. A lost drive stays lost, a drive that fails during
-- the call counts one failure more, and a steady drive doesn't fail
pub record LeavesDrives {D : Type 0} (units : D → List (List ℕ)) (lost : D → Bool) (failures : D → Failures) (places : Place → Type 0) (used : ℕ → Type 0) (old new : Parts D) : Type 0 where
  pub touched : KeepsDrives units lost failures places old.drives.items new.drives.items
  pub elsewhere : SameBut used old.drives.items new.drives.items
  pub fares : AllFare lost failures old.drives.items new.drives.items

-- the write of a slot changes units only at the slot's own places. A lost drive stays lost, a drive that fails during the write
-- counts one failure more, and a steady drive doesn't fail
pub record LeavesOthers {D : Type 0} (units : D → List (List ℕ)) (lost : D → Bool) (failures : D → Failures) (slot : ℕ) (old new : Parts D) : Type 0 where
  pub touched : KeepsDrives units lost failures (IsOwnOf old.groups slot) old.drives.items new.drives.items
  pub fares : AllFare lost failures old.drives.items new.drives.items
