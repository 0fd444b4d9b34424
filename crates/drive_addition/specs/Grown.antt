-- Drives in memory of an array with one drive more.
use Rattle.std.specs.Prelude.{ℕ}
use Rattle.extents.specs.Condition.{Held}
use Rattle.extents.specs.declared.shape.Shape.{Shape}
use Rattle.extent_groups.specs.Groups.{Groups}
use Rattle.unit_store.specs.declared.parts.Parts.{Parts}
use Rattle.byte_store.specs.Lasting.{Shown}
use Rattle.array_batch.specs.Changes.{HasPartsWith}
use Rattle.drive_addition.specs.Added.{AreGroupsFor}

-- the parts of an array that shows this, on so many drives, over all of which its extents are spread
abbrev pub IsGrownTo : Shown → Shape → Groups → ℕ → Parts Held → Type 0
IsGrownTo what shape old drives parts = HasPartsWith (AreGroupsFor shape old drives) what drives parts
