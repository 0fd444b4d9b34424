-- The sizes of an array, their limits, and where a unit lies on its drive.
use Rattle.std.specs.Prelude.{◌≡◌, ℕ, ◌+◌, ◌*◌, ◌%◌, ◌≤◌}

-- a drive has 1 to 512 extents
abbrev pub IsExtentCount : ℕ → Type 0
IsExtentCount extents = (1 ≤ extents) × (extents ≤ 512)

-- an extent has 1 to 8 segments, of two units each
abbrev pub IsSegmentCount : ℕ → Type 0
IsSegmentCount segments = (1 ≤ segments) × (segments ≤ 8)

-- a payload has 8 to 65,536 bytes, a multiple of 8
abbrev pub IsPayloadSize : ℕ → Type 0
IsPayloadSize payload = (8 ≤ payload) × (payload ≤ 65536) × (payload % 8 ≡ 0)

-- an array has 1 to 65,536 blocks
abbrev pub IsBlockCount : ℕ → Type 0
IsBlockCount blocks = (1 ≤ blocks) × (blocks ≤ 65536)

-- the four sizes lie within their limits
pub record AreInRange (extents segments payload blocks : ℕ) : Type 0 where
  pub some_extents : IsExtentCount extents
  pub some_segments : IsSegmentCount segments
  pub some_payload : IsPayloadSize payload
  pub some_blocks : IsBlockCount blocks

-- the field of this number, counted from 1, is out of its limit, and those before it are within theirs
pub record IsFirstOut (field extents segments payload blocks : ℕ) : Type 0 where
  pub named : (1 ≤ field) × (field ≤ 4)
  pub first : (field ≡ 1 → ¬ IsExtentCount extents) × (2 ≤ field → IsExtentCount extents)
  pub second : (field ≡ 2 → ¬ IsSegmentCount segments) × (3 ≤ field → IsSegmentCount segments)
  pub third : (field ≡ 3 → ¬ IsPayloadSize payload) × (4 ≤ field → IsPayloadSize payload)
  pub fourth : field ≡ 4 → ¬ IsBlockCount blocks

-- how many units an extent of that many segments has
abbrev pub extent_units : ℕ → ℕ
extent_units segments = 2 * segments

-- where the unit at an offset of an extent lies on its drive
abbrev pub unit_address : ℕ → ℕ → ℕ → ℕ
unit_address segments extent offset = extent * extent_units segments + offset
