-- When the parts of an array fit one another.
use Rattle.std.specs.Prelude.{◌≡◌, ℕ, ◌≤◌, Some, List, length, slice_get}
use Rattle.extents.specs.Shapes.{IsShapeOf}
use Rattle.extent_groups.specs.Groups.{AreGroups, Agree}
use Rattle.extent_groups.specs.Stores.{AreDrives}
use Rattle.unit_store.specs.declared.parts.Parts.{Parts}

-- each drive has `count` units
abbrev pub HaveUnitCount : {D : Type 0} → (D → List (List ℕ)) → List D → ℕ → Type 0
HaveUnitCount {D} units drives count = (d : ℕ) (x : D) → slice_get drives d ≡ Some x → length (units x) ≡ count

-- the parts fit: the shape is that of a well-formed table, there are 3 to 16 drives with the units that the sizes ask, and
-- the owners of their extents agree with the groups
pub record IsFit {D : Type 0} (units : D → List (List ℕ)) (parts : Parts D) : Type 0 where
  pub shape : IsShapeOf parts.shape parts.groups.extents parts.groups.segments parts.groups.payload parts.groups.blocks
  pub least : 3 ≤ length parts.drives.items
  pub most : length parts.drives.items ≤ 16
  pub groups : AreGroups parts.groups
  pub drives : AreDrives units parts.groups parts.drives.items
  pub agree : Agree parts.groups parts.extents
  pub rows : length parts.extents.rows ≡ length parts.drives.items
  pub wide : parts.extents.extents ≡ parts.groups.extents
