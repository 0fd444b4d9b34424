-- An array that a vault has, and one in memory.
use Rattle.std.specs.Prelude.{◌≡◌, ◌<◌, ◌≤◌, ℕ, false, Some, List, length, slice_get}
use Rattle.extents.specs.Condition.{Held}
use Rattle.extents.specs.Shapes.{IsShapeOf}
use Rattle.extents.specs.declared.shape.Shape.{Shape}
use Rattle.extent_groups.specs.Cells.{Cells}
use Rattle.extent_groups.specs.Groups.{Groups}
use Rattle.unit_store.specs.Memory.{held_failures, held_lost, held_units}
use Rattle.unit_store.specs.Views.{DriveView, PartsView, view_of}
use Rattle.unit_store.specs.declared.parts.Parts.{Parts}
use Rattle.tiered_array.specs.Views.{TiersView}
use Rattle.byte_store.specs.Lasting.{Shown}
use Rattle.group_form.specs.Form.{HasGroups}
use Rattle.journaled_store.specs.Left.{HasBoth}
use Rattle.journaled_store.specs.Outlasting.{parts_of}
use Rattle.array_recovery.specs.Found.{IsTable}

-- no drive has a mark
abbrev pub AreClear : List ℕ → Type 0
AreClear marks = (d : ℕ) → d < 16 → slice_get marks d ≡ Some 0

-- the table marks no drive
pub record MarksNone (c : Cells) : Type 0 where
  pub marks : List ℕ
  pub table : IsTable marks c
  pub clear : AreClear marks

-- Units of an array that shows this, with these groups on so many drives, none of which is lost: each drive's lie at its places, and the
-- table has the groups and marks no drive.
pub record HasArray (what : Shown) (groups : Groups) (drives : ℕ) (c : Cells) : Type 0 where
  pub tiers : TiersView
  pub shows : HasBoth tiers what
  pub groups_are : (parts_of tiers).groups ≡ groups
  pub many : length (parts_of tiers).drives ≡ drives
  pub few : drives ≤ 16
  pub alive : (d : ℕ) (v : DriveView) → slice_get (parts_of tiers).drives d ≡ Some v → v.lost ≡ false
  pub units : (d at : ℕ) (v : DriveView) → slice_get (parts_of tiers).drives d ≡ Some v → c d at ≡ slice_get v.units at
  pub table : HasGroups groups drives c
  pub unmarked : MarksNone c

-- groups of a shape's sizes
abbrev pub HaveSizes : Shape → Groups → Type 0
HaveSizes shape groups = IsShapeOf shape groups.extents groups.segments groups.payload groups.blocks

-- parts of drives in memory, as an array shows them
abbrev pub held_view : Parts Held → PartsView
held_view parts = view_of held_units held_lost held_failures parts

-- no drive is lost
abbrev pub AreHeldPresent : List Held → Type 0
AreHeldPresent drives = (d : ℕ) (m : Held) → slice_get drives d ≡ Some m → held_lost m ≡ false
