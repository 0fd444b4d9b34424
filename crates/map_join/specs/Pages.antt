-- Pages of keys, and what every block map keeps of them.
use Rattle.std.specs.Prelude.{◌≡◌, ◌≢◌, ◌↔◌, ℕ, ◌+◌, ◌*◌, ◌/◌, ◌%◌, ◌^◌, ◌<◌, ◌==◌, if◌then◌else◌, cond, min, List, map, Contains, slice_index, Option, Some, None}
use Rattle.std.specs.List.Sorted.{IsStrictlyIncreasing}
use Rattle.std.specs.Ordering.{nat_cmp, is_eq}
use Rattle.map_join.specs.declared.records.Record.{Record}
use Rattle.map_join.specs.Record.{record_at}
use Rattle.map_join.specs.Maps.{Lanes, Entries, find, lanes_of, IsSame, join}
use Rattle.map_join.specs.Tables.{IsKeyTable}

-- some block of the page has a key
abbrev pub HasKey : Lanes → Type 0
HasKey keys = (lane : ℕ) × (lane < 64) × (0 < slice_index keys lane)

-- the numbers of a page are records' keys or 0, and not all 0
pub record IsPage (keys : Lanes) : Type 0 where
  pub least : IsKeyTable keys
  pub some : HasKey keys

-- a map with other keys in one page
abbrev pub with_page : (ℕ → ℕ) → ℕ → (ℕ → ℕ) → ℕ → ℕ
with_page M number lanes block = if block / 64 == number then lanes (block % 64) else M block

-- the map that has one page and no other
abbrev pub paged : ℕ → (ℕ → ℕ) → ℕ → ℕ
paged number lanes block = if block / 64 == number then lanes (block % 64) else 0

-- the keys of a page are those that a map has of its blocks
abbrev pub IsPageOf : (ℕ → ℕ) → ℕ → Lanes → Type 0
IsPageOf M number keys = (lane : ℕ) → lane < 64 → M (64 * number + lane) ≡ slice_index keys lane

-- no page is past those of the 2^32 blocks
abbrev pub AreNumbers : Entries → Type 0
AreNumbers m = (number : ℕ) (keys : Lanes) → find m number ≡ Some keys → number < 2 ^ 26

-- the map n has this page of a number, and every other page as m
abbrev pub HasSet : Entries → Entries → ℕ → Lanes → Type 0
HasSet m n number keys = (other : ℕ) → find n other ≡ cond (is_eq (nat_cmp number other)) (Some keys) (find m other)

-- one page of n is m's joined with these keys, and every other page is as in m
abbrev pub IsPageJoined : Entries → Entries → ℕ → (ℕ → ℕ) → Type 0
IsPageJoined m n number lanes = (keys : Lanes) × HasSet m n number keys × IsSame (slice_index keys) (join (lanes_of (find m number)) lanes)

-- a block of which two maps have different keys, where they agree on each lower block of which the first has a key; none where
-- they agree on each block of which the first has a key
abbrev pub IsDifferenceOf : (ℕ → ℕ) → (ℕ → ℕ) → Option ℕ → Type 0
IsDifferenceOf M N None = (block : ℕ) → 0 < M block → M block ≡ N block
IsDifferenceOf M N (Some block) = (M block ≢ N block) × ((lower : ℕ) → lower < block → 0 < M lower → M lower ≡ N lower)

-- the lowest block of which a map has a key
abbrev pub IsFirstBlock : (ℕ → ℕ) → ℕ → Type 0
IsFirstBlock M block = (0 < M block) × ((lower : ℕ) → lower < block → M lower ≡ 0)

-- the lower of two blocks, or the one that there is
abbrev pub lower_of : Option ℕ → Option ℕ → Option ℕ
lower_of None theirs = theirs
lower_of (Some one) None = Some one
lower_of (Some one) (Some other) = Some (min one other)

-- the records of a map's blocks below one, in the blocks' order
pub record IsListBelow (bound : ℕ) (M : ℕ → ℕ) (records : List Record) : Type 0 where
  pub rising : IsStrictlyIncreasing (map (λ r. r.block) records)
  pub each : (r : Record) → Contains records r ↔ ((r.block < bound) × (record_at r.block (M r.block) ≡ Some r))
