-- What both stores say: when a call may come, what it leaves of every slot, and what it may touch of the drives.
use Rattle.std.specs.Prelude.{Bool, ◌≡◌, ◌≢◌, ℕ, ◌+◌, ◌*◌, ◌/◌, ◌%◌, ◌<◌, ◌⊎◌, Option, Some, None, List, length, slice_get}
use Rattle.extents.specs.Failures.{Failures}
use Rattle.extents.specs.Sizes.{extent_units}
use Rattle.extents.specs.declared.shape.TheConstants.{HEADER_BYTES}
use Rattle.extent_groups.specs.declared.class.Class.{Class}
use Rattle.extent_groups.specs.declared.class.Member.{Member}
use Rattle.extent_groups.specs.declared.place.Place.{Place}
use Rattle.extent_groups.specs.declared.refusal.StoreRefusal.{StoreRefusal}
use Rattle.extent_groups.specs.declared.refusal.StoreRefusal.TheVariants.{Gone}
use Rattle.extent_groups.specs.Groups.{Groups, AreGroups, group_at, class_in, slots_in, members_of}
use Rattle.extent_groups.specs.Cells.{Cells, cells, front, held}
use Rattle.extent_groups.specs.Calls.{AreSized, NoPlace, SameBut, KeepsDrives}
use Rattle.extent_groups.specs.Units.{Site, Pair, InStripe, site_of, unit_at, effective_unit, IsSoundAt, HasSoundSites}
use Rattle.extent_groups.specs.Layout.{IsOf, IsApart, AreNearby, IsDriveDisjoint}

-- bytes of a unit: its header and its payload
abbrev pub unit_bytes : Groups → ℕ
unit_bytes groups = HEADER_BYTES + groups.payload

-- a buffer with which `count` first bytes of a unit can be read: it has a unit's length, or it is empty and these bytes are all
abbrev pub IsBuffer : (bytes count scratch : ℕ) → Type 0
IsBuffer bytes count scratch = (scratch ≡ bytes) ⊎ ((scratch ≡ 0) × (count ≡ bytes))

-- the effective unit of a slot of these groups
abbrev pub unit_of : Groups → Cells → ℕ → Option (List ℕ)
unit_of groups c slot = effective_unit (unit_bytes groups) groups c slot

-- the header bytes of a slot's effective unit
abbrev pub header_of : Groups → Cells → ℕ → Option (List ℕ)
header_of groups c slot = front HEADER_BYTES (unit_of groups c slot)

-- the first of these are the headers of a group's slots, by index
abbrev pub AreHeaders : Groups → Cells → ℕ → ℕ → List (List ℕ) → Type 0
AreHeaders groups c group count headers = (i : ℕ) → i < count → header_of groups c (128 * group + i) ≡ slice_get headers i

-- every slot of these groups is sound
abbrev pub AreSound : Groups → Cells → Type 0
AreSound groups c = HasSoundSites (unit_bytes groups) groups c

-- a slot of a made group of this class
pub record IsSlotOf (class : Class) (groups : Groups) (slot : ℕ) : Type 0 where
  pub made : class_in (group_at groups (slot / 128)) ≡ Some class
  pub below : slot % 128 < slots_in groups.segments (group_at groups (slot / 128))

-- every drive has the units of the array's sizes, and every member of a group is an extent of one of the drives
pub record AreDrives {D : Type 0} (units : D → List (List ℕ)) (groups : Groups) (drives : List D) : Type 0 where
  pub many : (d : ℕ) (x : D) → slice_get drives d ≡ Some x → length (units x) ≡ groups.extents * extent_units groups.segments
  pub sized : AreSized units (unit_bytes groups) drives
  pub there : (g k : ℕ) (m : Member) → slice_get (members_of groups g) k ≡ Some m → (m.drive < length drives) × (m.extent < groups.extents)

-- the stores may be called: the drives are those of the groups, and every slot is sound
pub record IsConsistent {D : Type 0} (units : D → List (List ℕ)) (lost : D → Bool) (groups : Groups) (drives : List D) : Type 0 where
  pub drives_are : AreDrives units groups drives
  pub sound : AreSound groups (cells units lost drives)

-- each slot's effective unit that exists afterwards is what it was
abbrev pub KeepsUnits : Groups → Cells → Cells → Type 0
KeepsUnits groups c new = (slot : ℕ) (unit : List ℕ) → unit_of groups new slot ≡ Some unit → unit_of groups c slot ≡ Some unit

-- each slot's effective unit that exists afterwards is what it was, for every slot but one
abbrev pub KeepsOthers : Groups → Cells → Cells → ℕ → Type 0
KeepsOthers groups c new slot = (other : ℕ) (unit : List ℕ) → other ≢ slot → unit_of groups new other ≡ Some unit → unit_of groups c other ≡ Some unit

-- a write of a slot, however it ended: its effective unit, if it has one afterwards, is these bytes; where all slots were sound
-- they are, and each other slot's effective unit that exists afterwards is what it was
pub record WroteSlot (groups : Groups) (c new : Cells) (slot : ℕ) (bytes : List ℕ) : Type 0 where
  pub unit : (v : List ℕ) → unit_of groups new slot ≡ Some v → v ≡ bytes
  pub others : AreSound groups c → KeepsOthers groups c new slot
  pub sound : AreSound groups c → AreSound groups new

-- a refusal names the slot, whose effective unit doesn't exist
abbrev pub NamesGone : Groups → Cells → ℕ → StoreRefusal → Type 0
NamesGone groups c slot refusal = (refusal ≡ Gone slot) × (unit_of groups c slot ≡ None)

-- the places that a write of a site may touch: both copies, or the member's and the parity's
abbrev pub IsOwn : Site → Place → Type 0
IsOwn (Pair p q) x = (x ≡ p) ⊎ (x ≡ q)
IsOwn (InStripe row parity i) x = (slice_get row i ≡ Some x) ⊎ (slice_get row parity ≡ Some x)

-- the places that a write of a slot may touch
abbrev pub IsOwnOf : Groups → ℕ → Place → Type 0
IsOwnOf groups slot x = (site : Site) × (site_of groups slot ≡ Some site) × IsOwn site x

-- each such place holds these bytes, or its drive is lost
abbrev pub AreCopies : (Place → Type 0) → Cells → List ℕ → Type 0
AreCopies own c bytes = (x : Place) → own x → (held c x ≡ Some bytes) ⊎ (held c x ≡ None)

-- one of the site's places is on the drive
abbrev pub IsDriveOf : Site → ℕ → Type 0
IsDriveOf site d = (x : Place) × IsOf site x × (x.drive ≡ d)

-- a member of the group is on the drive
abbrev pub HasMemberOn : Groups → ℕ → ℕ → Type 0
HasMemberOn groups g d = (k : ℕ) × (m : Member) × (slice_get (members_of groups g) k ≡ Some m) × (m.drive ≡ d)

-- these are the members of a group, as a table of groups returns them
pub record IsGroupOf (groups : Groups) (g : ℕ) (members : List Member) : Type 0 where
  pub found : members ≡ members_of groups g
  pub formed : AreGroups groups

-- what reads of a group's slots leave: units that are sound and hold what they held, and the drives outside the group as they
-- were
pub record ReadLeaves {D : Type 0} (units : D → List (List ℕ)) (lost : D → Bool) (failures : D → Failures) (groups : Groups) (group : ℕ) (old new : List D) : Type 0 where
  pub units_kept : AreSound groups (cells units lost old) → KeepsUnits groups (cells units lost old) (cells units lost new)
  pub sound : AreSound groups (cells units lost old) → AreSound groups (cells units lost new)
  pub touched : KeepsDrives units lost failures NoPlace old new
  pub elsewhere : SameBut (HasMemberOn groups group) old new
  pub drives : AreDrives units groups new

-- a site's effective unit that exists afterwards is what it was, and it is sound afterwards
pub record KeepsAt (bytes : ℕ) (c new : Cells) (t : Site) : Type 0 where
  pub unit : (v : List ℕ) → unit_at bytes new t ≡ Some v → unit_at bytes c t ≡ Some v
  pub sound : IsSoundAt bytes new t

-- what a write of a sound site leaves: it is sound, and every other sound site, of its row or apart from it, is sound, and its
-- effective unit, if it has one afterwards, is what it was
pub record LeavesSites (bytes : ℕ) (c new : Cells) (site : Site) : Type 0 where
  pub sound : IsSoundAt bytes new site
  pub others : (t : Site) → IsDriveDisjoint t → IsApart site t ⊎ AreNearby site t → IsSoundAt bytes c t → KeepsAt bytes c new t
