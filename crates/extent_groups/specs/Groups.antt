-- The groups: which numbers are made, with which class and members, and what is true of every table of them.
use Rattle.std.specs.Prelude.{Bool, ◌==◌, ◌&&◌, ◌≡◌, ℕ, ◌<◌, ◌≤◌, Option, Some, None, List, [], ◌∷◌, length, map, slice_get, slice_set, unwrap_or}
use Rattle.extents.specs.Owners.{Owners, owner_of, with_owner, owner_row, IsExtent}
use Rattle.extent_groups.specs.declared.class.Class.{Class}
use Rattle.extent_groups.specs.declared.class.Class.TheVariants.{Mirrored, Parity}
use Rattle.extent_groups.specs.declared.class.Member.{Member}
use Rattle.extent_groups.specs.Geometry.{slot_count}

-- a group: its class, and its members in the order in which they were given
pub record Group : Type 0 where
  pub class : Class
  pub members : List Member

-- the groups by number, with the sizes of the array's shape
pub record Groups : Type 0 where
  pub extents : ℕ
  pub segments : ℕ
  pub payload : ℕ
  pub blocks : ℕ
  pub table : List (Option Group)

-- a group, none where the number is free
abbrev pub group_at : Groups → ℕ → Option Group
group_at groups g = unwrap_or (slice_get groups.table g) None

-- the members of an optional group
abbrev pub members_in : Option Group → List Member
members_in None = []
members_in (Some group) = group.members

-- the class of an optional group
abbrev pub class_in : Option Group → Option Class
class_in None = None
class_in (Some group) = Some group.class

-- how many slots an optional group has
abbrev pub slots_in : ℕ → Option Group → ℕ
slots_in segments None = 0
slots_in segments (Some group) = slot_count group.class (length group.members) segments

-- how many slots an optional group has as a parity group: 0 where the number is free or the group mirrored
abbrev pub parity_count : Class → ℕ → ℕ → ℕ
parity_count Mirrored n s = 0
parity_count Parity n s = slot_count Parity n s

abbrev pub parity_slots_in : ℕ → Option Group → ℕ
parity_slots_in segments None = 0
parity_slots_in segments (Some group) = parity_count group.class (length group.members) segments

-- how many slots each number's group has as a parity group, in the numbers' order
abbrev pub parity_slots_of : Groups → List ℕ
parity_slots_of groups = map (parity_slots_in groups.segments) groups.table

-- the members of a group, none where the number is free
abbrev pub members_of : Groups → ℕ → List Member
members_of groups g = members_in (group_at groups g)

-- the groups, with another one, or none, under a number
abbrev pub with_group : Groups → ℕ → Option Group → Groups
with_group groups g group = record groups { table = slice_set groups.table g group }

-- a group's members are 3 to 8, on different drives
pub record IsFormed (members : List Member) : Type 0 where
  pub enough : 3 ≤ length members
  pub few : length members ≤ 8
  pub spread : (j k : ℕ) (a b : Member) → slice_get members j ≡ Some a → slice_get members k ≡ Some b → a.drive ≡ b.drive → j ≡ k

-- what is true of every table: 512 numbers, groups that are formed, and no extent in two groups
pub record AreGroups (groups : Groups) : Type 0 where
  pub segments : (1 ≤ groups.segments) × (groups.segments ≤ 8)
  pub numbers : length groups.table ≡ 512
  pub formed : (g : ℕ) (group : Group) → group_at groups g ≡ Some group → IsFormed group.members
  pub apart : (g h j k : ℕ) (a b : Member) → slice_get (members_of groups g) j ≡ Some a → slice_get (members_of groups h) k ≡ Some b
      → a.drive ≡ b.drive → a.extent ≡ b.extent → g ≡ h

-- every row of the owners has the number of extents that the owners state
abbrev pub AreWide : Owners → Type 0
AreWide owners = (drive : ℕ) → drive < length owners.rows → length (owner_row owners drive) ≡ owners.extents

-- a number of a group that is free
pub record IsFree (groups : Groups) (g : ℕ) : Type 0 where
  pub within : g < length groups.table
  pub free : group_at groups g ≡ None

-- the members are extents that exist, all owned by the group
abbrev pub AreOwned : Owners → List Member → ℕ → Type 0
AreOwned owners members g = (k : ℕ) (m : Member) → slice_get members k ≡ Some m → IsExtent owners m.drive m.extent × (owner_of owners m.drive m.extent ≡ Some g)

-- whether a member is this extent
abbrev pub is_extent : ℕ → ℕ → Member → Bool
is_extent drive extent m = (m.drive == drive) && (m.extent == extent)

-- one of the members is this extent
abbrev pub HasMemberAt : List Member → ℕ → ℕ → Type 0
HasMemberAt members drive extent = (k : ℕ) × (slice_get members k ≡ Some (record { drive = drive; extent = extent }))

-- each extent of a drive's row that is owned is a member of its owner
abbrev pub RowMatches : Groups → List (Option ℕ) → ℕ → Type 0
RowMatches groups row drive = (extent g : ℕ) → slice_get row extent ≡ Some (Some g) → HasMemberAt (members_of groups g) drive extent

-- the groups and the owners agree: each extent of a group exists and is owned by that group, and each owned extent is a member of
-- its owner
pub record Agree (groups : Groups) (owners : Owners) : Type 0 where
  pub owned : (g : ℕ) → AreOwned owners (members_of groups g) g
  pub matches : (g drive extent : ℕ) → owner_of owners drive extent ≡ Some g → HasMemberAt (members_of groups g) drive extent
  pub wide : AreWide owners

-- each of the members is an extent that exists; its drive may be lost
abbrev pub AreThere : Owners → List Member → Type 0
AreThere owners members = (k : ℕ) (m : Member) → slice_get members k ≡ Some m → IsExtent owners m.drive m.extent

-- the owners, with one owner for the extents of all these members
abbrev pub with_owners : Owners → List Member → Option ℕ → Owners
with_owners owners [] owner = owners
with_owners owners (m ∷ ms) owner = with_owners (with_owner owners m.drive m.extent owner) ms owner

-- a group with another extent as one of its members, which keeps its number
abbrev pub with_member : Group → ℕ → Member → Group
with_member group k to = record group { members = slice_set group.members k to }

-- the group's member of this number is another extent now, and nothing else changed
abbrev pub swapped_in : Option Group → ℕ → Member → Option Group
swapped_in None k to = None
swapped_in (Some group) k to = Some (with_member group k to)

abbrev pub IsSwap : Groups → Groups → ℕ → ℕ → Member → Type 0
IsSwap old new g k to = new ≡ with_group old g (swapped_in (group_at old g) k to)

-- the extent of the group's member of this number is free now, and the other extent the group's
abbrev pub IsMove : Groups → Owners → Owners → ℕ → ℕ → Member → Type 0
IsMove groups old new g k to = (was : Member) → slice_get (members_of groups g) k ≡ Some was
    → new ≡ with_owner (with_owner old was.drive was.extent None) to.drive to.extent (Some g)
