-- A member of a group moved onto another extent: what is to lie at each of its offsets, and why it can't be.
use Rattle.std.specs.Prelude.{◌≡◌, ◌≢◌, ◌⊎◌, ℕ, ◌/◌, ◌<◌, Bool, true, false, Some, List, replicate, slice_get}
use Rattle.extents.specs.Failures.{Failures}
use Rattle.extents.specs.Sizes.{extent_units}
use Rattle.flat_machine.specs.declared.refusal.Refusal.{Refusal}
use Rattle.flat_machine.specs.declared.refusal.Refusal.TheVariants.{Gone, DriveLost}
use Rattle.flat_machine.specs.Moves.{IsUnrecoverable, IsBeyondOf, IsFirstGone}
use Rattle.extent_groups.specs.declared.class.Member.{Member}
use Rattle.extent_groups.specs.declared.role.Role.TheVariants.{Unused}
use Rattle.extent_groups.specs.Groups.{Groups, AreGroups, group_at, members_of, IsSwap, IsMove}
use Rattle.extent_groups.specs.Calls.{SameBut, KeepsDrives}
use Rattle.extent_groups.specs.Cells.{Cells, cells, held}
use Rattle.extent_groups.specs.Layout.{IsOf}
use Rattle.extent_groups.specs.Missing.{missing_of, IsGoneAt}
use Rattle.extent_groups.specs.Moving.{member_unit, IsCopied}
use Rattle.extent_groups.specs.Roles.{IsRoleIn}
use Rattle.extent_groups.specs.Stores.{unit_bytes, AreSound, AreDrives, HasMemberOn}
use Rattle.extent_groups.specs.Units.{Site, place_of, site_of}
use Rattle.extent_groups.specs.Wiping.{HasExtent, IsInExtent}
use Rattle.unit_store.specs.declared.parts.Parts.{Parts}
use Rattle.unit_store.specs.declared.relocate.Stop.{Stop}
use Rattle.unit_store.specs.declared.relocate.Stop.TheVariants.{Beyond, TargetLost}
use Rattle.unit_store.specs.Losses.{KeepsTables}
use Rattle.unit_store.specs.Slots.{cells_in, missing_in}

-- no slot lies on the extent
abbrev pub IsClear : Groups → Member → Type 0
IsClear groups to = (offset slot : ℕ) (site : Site) → offset < extent_units groups.segments → site_of groups slot ≡ Some site → IsOf site (place_of groups.segments offset to) → ⊥

-- the group's member of this number is one extent, and may go onto the other, on another drive, where no slot lies
pub record IsRoute {D : Type 0} (units : D → List (List ℕ)) (groups : Groups) (g k : ℕ) (was to : Member) (drives : List D) : Type 0 where
  pub groups_are : AreGroups groups
  pub drives_are : AreDrives units groups drives
  pub member : slice_get (members_of groups g) k ≡ Some was
  pub there : HasExtent units groups.segments drives to
  pub apart : to.drive ≢ was.drive
  pub clear : IsClear groups to

-- where no slot lies, the extent holds what the member's held, or zeros where the member's drive is lost
abbrev pub KeepsUnused : Groups → ℕ → ℕ → Member → Member → Cells → Cells → (ℕ → Bool) → Type 0
KeepsUnused groups g k was to c new missing = (offset : ℕ) → offset < extent_units groups.segments → IsRoleIn (group_at groups g) groups.segments k offset Unused
    → (held new (place_of groups.segments offset to) ≡ held c (place_of groups.segments offset was))
    ⊎ ((missing was.drive ≡ true) × (held new (place_of groups.segments offset to) ≡ Some (replicate (unit_bytes groups) 0)))

-- the unit is the one for an offset of a group's member. If all slots are sound, it is what the member is to hold for each
-- slot whose site has that place. None of these slots was gone if the member's drive was lost. Where no slot lies, it is what
-- the place held, or zeros if its drive is lost
pub record IsUnitFor (groups : Groups) (g k : ℕ) (was : Member) (offset : ℕ) (c : Cells) (before after : ℕ → Bool) (unit : List ℕ) : Type 0 where
  pub copied : AreSound groups c → (slot : ℕ) (site : Site) → slot / 128 ≡ g → site_of groups slot ≡ Some site → IsOf site (place_of groups.segments offset was)
      → member_unit (unit_bytes groups) c site k ≡ Some unit
  pub had : (slot : ℕ) (site : Site) → slot / 128 ≡ g → site_of groups slot ≡ Some site → IsOf site (place_of groups.segments offset was)
      → before was.drive ≡ true → IsGoneAt before site → ⊥
  pub unused : IsRoleIn (group_at groups g) groups.segments k offset Unused
      → (held c (place_of groups.segments offset was) ≡ Some unit) ⊎ ((after was.drive ≡ true) × (unit ≡ replicate (unit_bytes groups) 0))

-- the other extent holds the unit for an offset
pub record IsOnTarget {D : Type 0} (units : D → List (List ℕ)) (lost : D → Bool) (groups : Groups) (g k : ℕ) (was to : Member) (offset : ℕ) (old new : List D) : Type 0 where
  pub unit : List ℕ
  pub there : held (cells units lost new) (place_of groups.segments offset to) ≡ Some unit
  pub is : IsUnitFor groups g k was offset (cells units lost old) (missing_of lost old) (missing_of lost new) unit

-- the drive is the other extent's, or a member of the group is on it
abbrev pub IsUsed : Groups → ℕ → Member → ℕ → Type 0
IsUsed groups g to d = HasMemberOn groups g d ⊎ (d ≡ to.drive)

-- the units for the offsets below a number were put on the other extent, one after another
pub record AreOnTarget {D : Type 0} (units : D → List (List ℕ)) (lost : D → Bool) (failures : D → Failures) (groups : Groups) (g k : ℕ) (was to : Member) (bound : ℕ) (old new : List D) : Type 0 where
  pub each : (offset : ℕ) → offset < bound → IsOnTarget units lost groups g k was to offset old new
  pub touched : KeepsDrives units lost failures (IsInExtent groups.segments to) old new
  pub elsewhere : SameBut (IsUsed groups g to) old new

-- why no more is moved: a unit of the member can't be had, or the other extent's drive is lost
abbrev pub StopsFor : Groups → (ℕ → Bool) → ℕ → Member → Member → Stop → Type 0
StopsFor groups missing g was to Beyond = IsUnrecoverable groups missing g was.drive
StopsFor groups missing g was to TargetLost = missing to.drive ≡ true

-- a member other than the one of this number is on a missing drive
abbrev pub HasOtherMissing : (ℕ → Bool) → List Member → ℕ → Type 0
HasOtherMissing missing members own = (k : ℕ) × (m : Member) × (k ≢ own) × (slice_get members k ≡ Some m) × (missing m.drive ≡ true)

-- the refusal says why a member isn't moved: the other extent's drive is lost, or one of the member's units can't be had, and
-- then it names the lowest slot of the group that is gone
abbrev pub IsWhyUnmoved : Groups → (ℕ → Bool) → ℕ → ℕ → Member → Refusal → Type 0
IsWhyUnmoved groups missing g k to (DriveLost d) = (d ≡ to.drive) × (missing d ≡ true)
IsWhyUnmoved groups missing g k to (Gone slot) = (IsBeyondOf groups missing g k) × (IsFirstGone groups missing g slot)
IsWhyUnmoved groups missing g k to _ = ⊥

-- the group's member of this number was moved onto the other extent, and the tables say so. Each of the member's units could be
-- had, and the other extent's drive isn't lost. If all slots were sound, each unit that the other extent holds for a slot is the
-- member's, copied or rebuilt. Where no slot lies, it holds what the member's extent held, or zeros if the member's drive is lost
pub record WasSwapped {D : Type 0} (units : D → List (List ℕ)) (lost : D → Bool) (old : Parts D) (g k : ℕ) (to : Member) (new : Parts D) : Type 0 where
  pub swapped : IsSwap old.groups new.groups g k to
  pub moved : IsMove old.groups old.extents new.extents g k to
  pub had : IsBeyondOf old.groups (missing_in lost old) g k → ⊥
  pub present : missing_in lost new to.drive ≡ false
  pub copied : (was : Member) → slice_get (members_of old.groups g) k ≡ Some was → AreSound old.groups (cells_in units lost old)
      → IsCopied old.groups g k was to (cells_in units lost old) (cells_in units lost new)
  pub unused : (was : Member) → slice_get (members_of old.groups g) k ≡ Some was
      → KeepsUnused old.groups g k was to (cells_in units lost old) (cells_in units lost new) (missing_in lost new)

-- the member wasn't moved: the tables are as they were, and the refusal says why
pub record WasNotSwapped {D : Type 0} (lost : D → Bool) (old : Parts D) (g k : ℕ) (to : Member) (new : Parts D) (refusal : Refusal) : Type 0 where
  pub tables : KeepsTables old new
  pub reported : IsWhyUnmoved new.groups (missing_in lost new) g k to refusal
