-- The plan that moves a member of a group off a lost drive.
use Rattle.std.specs.Prelude.{◌≡◌, ◌⊎◌, ℕ, ◌<◌, ◌≤◌, Bool, true, Option, Some, None, List, IsNone, slice_get}
use Rattle.extents.specs.Owners.{Owners, load_of, lowest_free_of}
use Rattle.extent_groups.specs.Groups.{Groups}
use Rattle.rebalancer.specs.declared.shift.Shift.{Shift}
use Rattle.rebalancer.specs.Drives.{HasFreeExtent}
use Rattle.rebalancer.specs.Carrying.{member_on, CarriesGroup, IsLowest}

-- a drive that the group's member can move to: with room, and without a member of the group
pub record IsTarget (owners : Owners) (groups : Groups) (lost : List Bool) (g drive : ℕ) : Type 0 where
  pub room : HasFreeExtent owners lost drive
  pub apart : IsNone (member_on groups g drive)

-- of all of these the one of least load, and of several such the lowest
pub record IsBestTarget (owners : Owners) (groups : Groups) (lost : List Bool) (g drive : ℕ) : Type 0 where
  pub target : IsTarget owners groups lost g drive
  pub best : (other : ℕ) → IsTarget owners groups lost g other
      → (load_of owners drive < load_of owners other) ⊎ ((load_of owners drive ≡ load_of owners other) × (drive ≤ other))

-- the lowest group with a member on the lost drive: that member moves to its best target's lowest free extent, and keeps its
-- number
pub record IsRebuildShift (owners : Owners) (groups : Groups) (lost : List Bool) (drive : ℕ) (s : Shift) : Type 0 where
  pub gone : slice_get lost drive ≡ Some true
  pub lowest : IsLowest (λ g. CarriesGroup groups drive g) s.group
  pub member : member_on groups s.group drive ≡ Some s.member
  pub to : IsBestTarget owners groups lost s.group s.to.drive
  pub extent : lowest_free_of owners s.to.drive ≡ Some s.to.extent

-- none where the drive isn't lost, or no group has a member on it, or the member of the lowest such group has no target
abbrev pub IsRebuild : Owners → Groups → List Bool → ℕ → Option Shift → Type 0
IsRebuild owners groups lost drive None =
    slice_get lost drive ≡ Some true → (g : ℕ) → IsLowest (λ h. CarriesGroup groups drive h) g
    → (to : ℕ) → IsTarget owners groups lost g to → ⊥
IsRebuild owners groups lost drive (Some s) = IsRebuildShift owners groups lost drive s
