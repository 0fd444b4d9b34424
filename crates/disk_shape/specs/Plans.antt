-- The sizes of the array that keeps a disk.
use Rattle.std.specs.Prelude.{◌≡◌, ℕ, ◌+◌, ◌-◌, ◌*◌, ◌/◌, ◌<◌, ◌≤◌, nat_le, if◌then◌else◌}
use Rattle.extents.specs.Sizes.{IsPayloadSize}
use Rattle.extent_groups.specs.declared.class.Class.TheVariants.{Mirrored, Parity}
use Rattle.extent_groups.specs.Geometry.{slot_count}
use Rattle.disk_shape.specs.declared.refusal.ShapeFault.{ShapeFault}
use Rattle.disk_shape.specs.declared.refusal.ShapeFault.TheVariants.{Drives, Block, Empty, TooLarge}

-- a group has a member on each drive, on 8 at most
abbrev pub member_count : ℕ → ℕ
member_count drives = if nat_le drives 8 then drives else 8

-- of every five groups, begun fives too, one is mirrored
abbrev pub mirrored_of : ℕ → ℕ
mirrored_of groups = (groups + 4) / 5

-- the slots of a number of groups
abbrev pub slots_of : ℕ → ℕ → ℕ → ℕ
slots_of members segments groups =
    mirrored_of groups * slot_count Mirrored members segments + (groups - mirrored_of groups) * slot_count Parity members segments

-- the bytes of the largest disk: one slot stays free
abbrev pub largest_size : ℕ → ℕ → ℕ
largest_size drives block = (slots_of (member_count drives) 8 512 - 1) * block

-- 3 to 16 drives
abbrev pub IsDriveCount : ℕ → Type 0
IsDriveCount drives = (3 ≤ drives) × (drives ≤ 16)

-- there is a disk of these sizes
pub record AreDiskSizes (size block drives : ℕ) : Type 0 where
  pub drive_count : IsDriveCount drives
  pub block_size : IsPayloadSize block
  pub some : 0 < size
  pub most : size ≤ largest_size drives block

-- the first reason why there is none
abbrev pub IsFaultOf : ℕ → ℕ → ℕ → ShapeFault → Type 0
IsFaultOf size block drives Drives = ¬ IsDriveCount drives
IsFaultOf size block drives Block = (IsDriveCount drives) × (¬ IsPayloadSize block)
IsFaultOf size block drives Empty = (IsDriveCount drives) × (IsPayloadSize block) × (size ≡ 0)
IsFaultOf size block drives (TooLarge most) =
    (IsDriveCount drives) × (IsPayloadSize block) × (most ≡ largest_size drives block) × (most < size)

-- the sizes of a plan fit one another: each group has a member on each drive, on 8 at most, and there are extents for all of them
pub record AreConsistent (drives members groups mirrored extents : ℕ) : Type 0 where
  pub drive_count : IsDriveCount drives
  pub member_count_is : members ≡ member_count drives
  pub group_count : (2 ≤ groups) × (groups ≤ 512)
  pub mirrored_count : mirrored ≡ mirrored_of groups
  pub extent_count : groups * members ≤ extents * drives
