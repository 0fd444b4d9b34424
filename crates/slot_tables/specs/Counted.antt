-- How many of each group's slots are newest places, as the array keeps it next to its places.
use Rattle.std.specs.Prelude.{◌≡◌, ℕ, zero, suc, ◌+◌, ◌*◌, ◌<◌, Bool, true, false, if◌then◌else◌, List, length, slice_index, slice_index_or}
use Rattle.slot_tables.specs.Views.{Kept, Nothing, Pending, Moving, Newest, Unmade}

-- a slot of which this is kept is a block's newest place
abbrev pub is_newest : Kept → Bool
is_newest Nothing = false
is_newest (Pending k) = false
is_newest (Moving r k) = false
is_newest (Newest block) = true
is_newest Unmade = false

-- one for a newest place, and none for any other slot
abbrev pub newest_in : Kept → ℕ
newest_in kept = if is_newest kept then 1 else 0

-- how many of the first `index` slots of a group are newest places
unfoldable pub newest_below : List Kept → ℕ → ℕ → ℕ
newest_below kept group zero = 0
newest_below kept group (suc index) = newest_below kept group index + newest_in (slice_index_or kept (128 * group + index) Nothing)

-- the counts are those of the 512 groups
pub record AreCounts (kept : List Kept) (live : List ℕ) : Type 0 where
  pub many : length live ≡ 512
  pub each : (group : ℕ) → group < 512 → slice_index live group ≡ newest_below kept group 128
