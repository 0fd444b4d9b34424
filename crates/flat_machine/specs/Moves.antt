-- Groups that are dissolved, members that go onto other extents, and drives that come to an array: when that may be, and the
-- state that it leaves.
use Rattle.std.specs.Prelude.{◌≡◌, ◌≢◌, ℕ, ◌+◌, ◌/◌, ◌%◌, ◌<◌, ◌==◌, ◌&&◌, nat_lt, Bool, true, false, if◌then◌else◌, slice_get, Option, Some, None}
use Rattle.extents.specs.Failures.{Failures, fused}
use Rattle.extent_groups.specs.declared.class.Member.{Member}
use Rattle.flat_machine.specs.declared.refusal.Refusal.{Refusal}
use Rattle.flat_machine.specs.declared.refusal.Refusal.TheVariants.{NoGroup, BadMember, SameDrive, ExtentTaken}
use Rattle.extent_groups.specs.Groups.{Groups, group_at, members_of, slots_in, with_group, swapped_in, HasMemberAt}
use Rattle.extent_groups.specs.Missing.{IsGone, IsGoneAt}
use Rattle.extent_groups.specs.Stores.{HasMemberOn, IsDriveOf}
use Rattle.extent_groups.specs.Units.{Site, site_of}
use Rattle.flat_machine.specs.Flat.{Flat, Holder, Worker, Shut, Stored, IsArrayHeld, class_of, put, turned}

-- a slot of the group
pub record IsIn (F : Flat) (g slot : ℕ) : Type 0 where
  pub group : slot / 128 ≡ g
  pub made : class_of F slot ≢ None

-- the worker has a plain claim of the slot: the array itself holds it for nothing
abbrev pub HasClaim : Flat → ℕ → ℕ → Type 0
HasClaim F w slot = (F.held slot (Worker w) ≡ true) × (IsArrayHeld F slot → ⊥)

-- the lowest slot of the group that the worker has no plain claim of
pub record IsFirstStray (F : Flat) (w g slot : ℕ) : Type 0 where
  pub is : IsIn F g slot
  pub stray : HasClaim F w slot → ⊥
  pub below : (other : ℕ) → other < slot → IsIn F g other → HasClaim F w other

-- the pairs in which the first `count` slots of a group go from the worker to the group's number
abbrev pub shut_first : (ℕ → Holder → Bool) → ℕ → ℕ → ℕ → ℕ → Holder → Bool
shut_first held w g count slot =
    if (slot / 128 == g) && nat_lt (slot % 128) count then turned held slot (Worker w) (Shut g) slot else held slot

-- the units without those of a group
abbrev pub without_group : (ℕ → Option Stored) → ℕ → ℕ → Option Stored
without_group units g slot = if slot / 128 == g then None else units slot

-- the state in which a group is dissolved: its slots have no unit, and the claims that the worker had of them are kept
abbrev pub unmade : Flat → ℕ → ℕ → Flat
unmade F w g = record F {
  groups = with_group F.groups g None;
  held = shut_first F.held w g (slots_in F.groups.segments (group_at F.groups g));
  units = without_group F.units g;
}

-- an extent that exists, on a drive of none of the group's members, and of no group
pub record IsMoveTarget (groups : Groups) (drives g : ℕ) (to : Member) : Type 0 where
  pub drive : to.drive < drives
  pub extent : to.extent < groups.extents
  pub apart : HasMemberOn groups g to.drive → ⊥
  pub unowned : (h : ℕ) → HasMemberAt (members_of groups h) to.drive to.extent → ⊥

-- why the group's member of this number can't go onto the extent, lost drives aside; none where nothing speaks against it
abbrev pub IsMoveReason : Groups → ℕ → ℕ → ℕ → Member → Option Refusal → Type 0
IsMoveReason groups drives g k to (Some NoGroup) = slice_get (members_of groups g) k ≡ None
IsMoveReason groups drives g k to (Some BadMember) =
    (slice_get (members_of groups g) k ≢ None) × (((to.drive < drives) × (to.extent < groups.extents)) → ⊥)
IsMoveReason groups drives g k to (Some SameDrive) =
    (slice_get (members_of groups g) k ≢ None) × (to.drive < drives) × (to.extent < groups.extents) × (HasMemberOn groups g to.drive)
IsMoveReason groups drives g k to (Some ExtentTaken) =
    (slice_get (members_of groups g) k ≢ None) × (to.drive < drives) × (to.extent < groups.extents) × (HasMemberOn groups g to.drive → ⊥)
    × ((h : ℕ) × (HasMemberAt (members_of groups h) to.drive to.extent))
IsMoveReason groups drives g k to None = (slice_get (members_of groups g) k ≢ None) × (IsMoveTarget groups drives g to)
IsMoveReason groups drives g k to (Some _) = ⊥

-- moving the group's member of this number passes all that it tests before it allocates
abbrev pub MovePasses : Flat → ℕ → ℕ → Member → Type 0
MovePasses F g k to = (IsMoveReason F.groups F.drives g k to None) × (F.lost to.drive ≡ false)

-- what lies on a lost drive for a group can't be rebuilt: a slot of the group that has a unit there is gone
pub record IsUnrecoverable (groups : Groups) (missing : ℕ → Bool) (g drive : ℕ) : Type 0 where
  pub lost : missing drive ≡ true
  pub slot : ℕ
  pub group : slot / 128 ≡ g
  pub site : Site
  pub there : site_of groups slot ≡ Some site
  pub on : IsDriveOf site drive
  pub gone : IsGoneAt missing site

-- the lowest slot of the group that is gone
pub record IsFirstGone (groups : Groups) (missing : ℕ → Bool) (g slot : ℕ) : Type 0 where
  pub group : slot / 128 ≡ g
  pub gone : IsGone groups missing slot
  pub below : (other : ℕ) → other < slot → other / 128 ≡ g → IsGone groups missing other → ⊥

-- a unit of the group's member of this number can't be rebuilt
abbrev pub IsBeyondOf : Groups → (ℕ → Bool) → ℕ → ℕ → Type 0
IsBeyondOf groups missing g k = (was : Member) × (slice_get (members_of groups g) k ≡ Some was) × (IsUnrecoverable groups missing g was.drive)

-- the state in which the group's member of this number is another extent: slots, units and holders are as they were
abbrev pub moved_to : Flat → ℕ → ℕ → Member → Flat
moved_to F g k to = record F { groups = with_group F.groups g (swapped_in (group_at F.groups g) k to) }

-- the state with one more drive, of which it is given whether it is lost, how often it failed, and whether it is steady
abbrev pub with_new_drive : Flat → Bool → Failures → Flat
with_new_drive F lost failures = record F {
  drives = F.drives + 1;
  lost = put F.lost F.drives lost;
  failures = put F.failures F.drives failures;
}

-- the state after a drive was given a fuse: it isn't steady, unless it is lost; nothing else differs
abbrev pub with_fuse : Flat → ℕ → Flat
with_fuse F drive = record F { failures = put F.failures drive (fused (F.lost drive) (F.failures drive)) }
