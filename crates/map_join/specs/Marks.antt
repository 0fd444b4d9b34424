-- Marks on the indexes of a group, as a walk of a map leaves them.
use Rattle.std.specs.Prelude.{◌≡◌, ℕ, ◌/◌, ◌%◌, ◌^◌, ◌<◌, ◌≤◌, Bool, true, Some, List, slice_get}

-- the block's key is a record's, and has the slot as its place
abbrev pub IsPlacedAt : (ℕ → ℕ) → ℕ → ℕ → Type 0
IsPlacedAt keys slot block = (2 ^ 32 ≤ keys block) × (keys block % 65536 ≡ slot)

-- some block below a bound has such a key
abbrev pub IsPlacedBelow : ℕ → (ℕ → ℕ) → ℕ → Type 0
IsPlacedBelow bound keys slot = (block : ℕ) × (block < bound) × IsPlacedAt keys slot block

-- some block has such a key
abbrev pub IsPlaced : (ℕ → ℕ) → ℕ → Type 0
IsPlaced keys slot = (block : ℕ) × IsPlacedAt keys slot block

-- the index is marked
abbrev pub IsSet : List Bool → ℕ → Type 0
IsSet marks index = slice_get marks index ≡ Some true

-- one of the first `slots` slots of a group, and marked
pub record IsMarkedIn (marks : List Bool) (group slots slot : ℕ) : Type 0 where
  pub own : slot / 128 ≡ group
  pub among : slot % 128 < slots
  pub marked : IsSet marks (slot % 128)
