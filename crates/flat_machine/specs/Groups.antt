-- The sizes of an array and its groups, as the flat machine states them. Slot number = 128 * group + index.
use Rattle.std.specs.Prelude.{◌≡◌, ◌≢◌, ℕ, ◌/◌, ◌%◌, ◌<◌, ◌≤◌, nat_lt, Bool, true, false, if◌then◌else◌, List, length, slice_get, Option, Some, None}
use Rattle.extents.specs.Sizes.{AreInRange}
use Rattle.extent_groups.specs.declared.class.Class.{Class}
use Rattle.extent_groups.specs.declared.class.Member.{Member}
use Rattle.extent_groups.specs.Geometry.{slot_count}
use Rattle.extent_groups.specs.Groups.{Group, Groups, group_at, members_of, AreGroups, HasMemberAt}

-- the four sizes are within their limits
abbrev pub AreSizes : Groups → Type 0
AreSizes groups = AreInRange groups.extents groups.segments groups.payload groups.blocks

-- the class of an optional group, where it has a slot of that index
abbrev pub class_below : ℕ → Option Group → ℕ → Option Class
class_below segments None index = None
class_below segments (Some group) index = if nat_lt index (slot_count group.class (length group.members) segments) then Some group.class else None

-- the class of a slot, none where no made group has it
abbrev pub class_at : Groups → ℕ → Option Class
class_at groups slot = class_below groups.segments (group_at groups (slot / 128)) (slot % 128)

-- each of the members is an extent that exists; its drive may be lost
abbrev pub AreThere : ℕ → ℕ → List Member → Type 0
AreThere extents drives members = (k : ℕ) (m : Member) → slice_get members k ≡ Some m → (m.drive < drives) × (m.extent < extents)

-- members that a group can have: three to eight, each an extent that exists
pub record AreMembers (extents drives : ℕ) (members : List Member) : Type 0 where
  pub least : 3 ≤ length members
  pub most : length members ≤ 8
  pub there : AreThere extents drives members

-- no two of the members lie on one drive
abbrev pub AreApart : List Member → Type 0
AreApart members = (j k : ℕ) (a b : Member) → slice_get members j ≡ Some a → slice_get members k ≡ Some b → a.drive ≡ b.drive → j ≡ k

-- no made group has one of the members
abbrev pub AreUnowned : Groups → List Member → Type 0
AreUnowned groups members = (g drive extent : ℕ) → HasMemberAt (members_of groups g) drive extent → HasMemberAt members drive extent → ⊥

-- no member's drive is lost
abbrev pub ArePresent : (ℕ → Bool) → List Member → Type 0
ArePresent lost members = (k : ℕ) (m : Member) → slice_get members k ≡ Some m → lost m.drive ≡ false

-- the drive of the first of the members whose drive is lost
pub record IsFirstLost (lost : ℕ → Bool) (members : List Member) (drive : ℕ) : Type 0 where
  pub number : ℕ
  pub member : Member
  pub there : slice_get members number ≡ Some member
  pub is : member.drive ≡ drive
  pub lost_is : lost drive ≡ true
  pub before : (k : ℕ) (m : Member) → k < number → slice_get members k ≡ Some m → lost m.drive ≡ false

-- what is true of every array's groups: of their table, and that each member is an extent of one of the drives
pub record GroupsStand (groups : Groups) (drives : ℕ) : Type 0 where
  pub table : AreGroups groups
  pub there : (g : ℕ) → AreThere groups.extents drives (members_of groups g)

-- the lowest number of which no group is made
pub record IsLowestFree (groups : Groups) (g : ℕ) : Type 0 where
  pub limit : g < 512
  pub free : group_at groups g ≡ None
  pub below : (h : ℕ) → h < g → group_at groups h ≢ None

-- a group is made of every number
abbrev pub IsTableFull : Groups → Type 0
IsTableFull groups = (g : ℕ) → g < 512 → group_at groups g ≢ None

-- no group is made, of numbers that there are
pub record IsEmpty (groups : Groups) : Type 0 where
  pub numbers : length groups.table ≡ 512
  pub free : (g : ℕ) → group_at groups g ≡ None
