-- Drives in memory of an array without its last drive.
use Rattle.std.specs.Prelude.{◌≡◌, ◌+◌, ◌*◌, ◌<◌, ℕ, true, false, Some, List, length, slice_get}
use Rattle.extents.specs.Condition.{Held}
use Rattle.extents.specs.Sizes.{extent_units}
use Rattle.extents.specs.declared.shape.Shape.{Shape}
use Rattle.extent_groups.specs.Cells.{Cells}
use Rattle.extent_groups.specs.Groups.{Groups}
use Rattle.array_expansion.specs.Expansion.{SameShapes}
use Rattle.unit_store.specs.Fit.{HaveUnitCount}
use Rattle.unit_store.specs.Memory.{held_lost, held_units}
use Rattle.unit_store.specs.declared.parts.Parts.{Parts}
use Rattle.tiered_array.specs.Views.{TiersView}
use Rattle.byte_store.specs.Lasting.{Shown}
use Rattle.journaled_store.specs.Left.{HasBoth}
use Rattle.journaled_store.specs.Outlasting.{parts_of}
use Rattle.array_batch.specs.Arrays.{AreHeldPresent, HaveSizes, held_view}
use Rattle.drive_evacuation.specs.Evacuation.{AreClearOf}

-- so many drives in memory: the last is lost, and the others aren't and have the units at their places
pub record AreOthersOf (c : Cells) (drives : ℕ) (caches : List Held) : Type 0 where
  pub many : length caches ≡ drives
  pub units : (d at : ℕ) (m : Held) → d + 1 < drives → slice_get caches d ≡ Some m → at < length m.units → c d at ≡ slice_get m.units at
  pub present : (d : ℕ) (m : Held) → d + 1 < drives → slice_get caches d ≡ Some m → held_lost m ≡ false
  pub last : (d : ℕ) (m : Held) → d + 1 ≡ drives → slice_get caches d ≡ Some m → held_lost m ≡ true

-- the parts of an array that shows this, on so many drives, of which this one is lost and of no group
pub record IsEmptiedOf (what : Shown) (shape : Shape) (old : Groups) (drives drive : ℕ) (parts : Parts Held) : Type 0 where
  pub tiers : TiersView
  pub shows : HasBoth tiers what
  pub parts_are : parts_of tiers ≡ held_view parts
  pub many : length parts.drives.items ≡ drives
  pub sizes : HaveSizes shape parts.groups
  pub kept : SameShapes old parts.groups
  pub clear : AreClearOf parts.groups drive
  pub lost : (m : Held) → slice_get parts.drives.items drive ≡ Some m → held_lost m ≡ true

-- the groups and the drives of an array that shows this, on so many drives, none of which is lost
pub record IsShortenedTo (what : Shown) (shape : Shape) (old : Groups) (drives : ℕ) (parts : Parts Held) : Type 0 where
  pub tiers : TiersView
  pub shows : HasBoth tiers what
  pub parts_are : parts_of tiers ≡ held_view parts
  pub many : length parts.drives.items ≡ drives
  pub sizes : HaveSizes shape parts.groups
  pub kept : SameShapes old parts.groups
  pub present : AreHeldPresent parts.drives.items
  pub count : HaveUnitCount held_units parts.drives.items (parts.groups.extents * extent_units parts.groups.segments)
