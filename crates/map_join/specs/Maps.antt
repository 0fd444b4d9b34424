-- Maps from blocks to keys, their order and join, and the map of a list of records.
use Rattle.std.specs.Prelude.{◌≡◌, ◌≢◌, ◌↔◌, ℕ, ◌<◌, ◌≤◌, ◌/◌, ◌%◌, max, ◌==◌, if◌then◌else◌, List, slice_index, map, Option, Some, None, Contains}
use Rattle.std.specs.Map.{lookup, keys_of}
use Rattle.std.specs.Ordering.{nat_cmp, is_eq}
use Rattle.std.specs.List.Sorted.{IsStrictlyIncreasing, IsStrictlySortedBy}
use Rattle.map_join.specs.declared.records.Record.{Record}
use Rattle.map_join.specs.Record.{key_of, record_at}

-- the keys of a page, which are those of 64 consecutive blocks, 0 where a block has none
abbrev pub Lanes : Type 0
Lanes = List ℕ

-- what a block map shows: its pages in order, each with its number, which is that of its blocks divided by 64
abbrev pub Entries : Type 0
Entries = List (ℕ × Lanes)

-- the page that a map has of a number, if any
abbrev pub find : Entries → ℕ → Option Lanes
find m number = lookup (λ n. is_eq (nat_cmp number n)) m

-- the numbers of the pages rise
abbrev pub AreInOrder : Entries → Type 0
AreInOrder m = IsStrictlySortedBy nat_cmp (keys_of m)

-- the key in a lane of a page, 0 where there is no page
abbrev pub lanes_of : Option Lanes → ℕ → ℕ
lanes_of None lane = 0
lanes_of (Some keys) lane = slice_index keys lane

-- a block map as a function: the block's key, or 0
unfoldable pub at : Entries → ℕ → ℕ
at m block = lanes_of (find m (block / 64)) (block % 64)

-- two maps give each block the same key
abbrev pub IsSame : (ℕ → ℕ) → (ℕ → ℕ) → Type 0
IsSame M N = (block : ℕ) → M block ≡ N block

-- a map is below another where no block has a greater key
abbrev pub IsBelow : (ℕ → ℕ) → (ℕ → ℕ) → Type 0
IsBelow M N = (block : ℕ) → M block ≤ N block

-- the join gives each block the greater of its two keys
abbrev pub join : (ℕ → ℕ) → (ℕ → ℕ) → ℕ → ℕ
join M N block = max (M block) (N block)

-- the map that has one block's key and no other
abbrev pub lone : ℕ → ℕ → ℕ → ℕ
lone here key block = if block == here then key else 0

-- the map that holds one record
abbrev pub only : Record → ℕ → ℕ
only r block = if block == r.block then key_of r else 0

-- a map joined with another's blocks below one: from that block on, which it didn't have and the other has, it is as before
pub record IsJoinedBelow (bound : ℕ) (M N joined : ℕ → ℕ) : Type 0 where
  pub below : (block : ℕ) → block < bound → joined block ≡ join M N block
  pub rest : (block : ℕ) → bound ≤ block → joined block ≡ M block
  pub missing : M bound ≡ 0
  pub there : 0 < N bound

-- a map joined with a part of another, in the blocks' order, and not with all of it
abbrev pub IsPartlyJoined : (ℕ → ℕ) → (ℕ → ℕ) → (ℕ → ℕ) → Type 0
IsPartlyJoined M N joined = (bound : ℕ) × IsJoinedBelow bound M N joined

-- the lowest block of which two maps have different keys
pub record IsLowestDifference (M N : ℕ → ℕ) (block : ℕ) : Type 0 where
  pub differs : M block ≢ N block
  pub lowest : (lower : ℕ) → lower < block → M lower ≡ N lower

-- that block, or none where they have the same keys
abbrev pub IsDifference : (ℕ → ℕ) → (ℕ → ℕ) → Option ℕ → Type 0
IsDifference M N None = IsSame M N
IsDifference M N (Some block) = IsLowestDifference M N block

-- a map is that of a list of records: each of its keys is the key of a record of the list, and no record of the list has a
-- greater one; neither the order of the list nor duplicates in it matter
pub record IsMapOf (records : List Record) (M : ℕ → ℕ) : Type 0 where
  pub reported : (block : ℕ) → 0 < M block → (r : Record) × (Contains records r) × (r.block ≡ block) × (key_of r ≡ M block)
  pub most : (r : Record) → Contains records r → key_of r ≤ M r.block

-- two lists have the same records, in any order and with any repeats
abbrev pub HasSameRecords : List Record → List Record → Type 0
HasSameRecords xs ys = (r : Record) → Contains xs r ↔ Contains ys r

-- the records of a map, one for each block that has one, in the blocks' order
pub record IsListOf (M : ℕ → ℕ) (records : List Record) : Type 0 where
  pub rising : IsStrictlyIncreasing (map (λ r. r.block) records)
  pub each : (r : Record) → Contains records r ↔ (record_at r.block (M r.block) ≡ Some r)
