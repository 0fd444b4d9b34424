-- A change of the groups of an array in memory, stated over the flat state.
use Rattle.std.specs.Prelude.{◌≡◌, ◌≢◌, ℕ, List, Some, None, slice_get}
use Rattle.extent_groups.specs.declared.class.Class.{Class}
use Rattle.extent_groups.specs.declared.class.Member.{Member}
use Rattle.extent_groups.specs.Groups.{Groups, group_at, members_of, swapped_in, with_group}
use Rattle.flat_machine.specs.Flat.{Flat}
use Rattle.flat_machine.specs.Groups.{AreApart, AreMembers, AreUnowned, IsLowestFree}
use Rattle.flat_machine.specs.Moves.{IsMoveTarget}
use Rattle.slot_tables.specs.Represents.{Represents}
use Rattle.slot_tables.specs.Views.{WorldView}
use Rattle.group_changes.specs.Changed.{CanBeMade, groups_after}
use Rattle.group_changes.specs.declared.change.GroupChange.{GroupChange}

-- the state has these groups, and the writes, records and number of drives of the one of before
pub record IsRegrouped (groups : Groups) (F G : Flat) : Type 0 where
  pub groups_are : G.groups ≡ groups
  pub drives : G.drives ≡ F.drives
  pub writes : G.writes ≡ F.writes
  pub log : G.emitted ≡ F.emitted

-- the same, with the groups of before: slots were claimed
abbrev pub IsClaimedOf : Flat → Flat → Type 0
IsClaimedOf F G = IsRegrouped F.groups F G

-- a group was made under this number
pub record IsMade (g : ℕ) (class : Class) (members : List Member) (F G : Flat) : Type 0 where
  pub lowest : IsLowestFree F.groups g
  pub members_are : AreMembers F.groups.extents F.drives members
  pub apart : AreApart members
  pub unowned : AreUnowned F.groups members
  pub now : IsRegrouped (with_group F.groups g (Some (record { class = class; members = members }))) F G

-- the group of this number was dissolved
pub record IsDissolved (g : ℕ) (F G : Flat) : Type 0 where
  pub there : group_at F.groups g ≢ None
  pub now : IsRegrouped (with_group F.groups g None) F G

-- the group's member of this number was moved
pub record IsMoved (g k : ℕ) (to : Member) (F G : Flat) : Type 0 where
  pub there : slice_get (members_of F.groups g) k ≢ None
  pub target : IsMoveTarget F.groups F.drives g to
  pub now : IsRegrouped (with_group F.groups g (swapped_in (group_at F.groups g) k to)) F G

-- the change was made
pub record IsApplied (change : GroupChange) (F G : Flat) : Type 0 where
  pub can : CanBeMade change F.groups F.drives
  pub now : IsRegrouped (groups_after change F.groups) F G

-- the change was made of whatever the world represented
abbrev pub Applies : GroupChange → WorldView → WorldView → Type 0
Applies change old new = (F : Flat) → Represents old F → (G : Flat) × IsApplied change F G × Represents new G
