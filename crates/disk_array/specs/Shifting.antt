-- When a group's member can be moved onto an extent, stated over the tables.
use Rattle.std.specs.Prelude.{◌≡◌, ℕ, ◌<◌, None, length}
use Rattle.extents.specs.Owners.{IsExtent}
use Rattle.extent_groups.specs.declared.class.Member.{Member}
use Rattle.extent_groups.specs.Faults.{swap_fault}
use Rattle.extent_groups.specs.Groups.{group_at, members_of}
use Rattle.unit_store.specs.Views.{PartsView}

-- there is a member of this number, and an extent against which no test speaks
pub record CanShift (v : PartsView) (g k : ℕ) (to : Member) : Type 0 where
  pub member : k < length (members_of v.groups g)
  pub there : IsExtent v.owners to.drive to.extent
  pub fine : swap_fault v.owners (group_at v.groups g) to ≡ None
