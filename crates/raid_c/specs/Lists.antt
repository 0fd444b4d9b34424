-- Lists of records as bytes, twelve for each, and what calls on them return.
use Rattle.std.specs.Prelude.{◌≡◌, ◌≢◌, ◌+◌, ◌*◌, ◌/◌, ◌%◌, ◌<◌, ◌≤◌, ◌⊎◌, ℕ, List, [], ◌∷◌, ◌++◌, length, slice_range, take, drop, Contains}
use Rattle.byteorder.specs.Endian.{big_number}
use Rattle.map_join.specs.declared.records.Record.{Record}
use Rattle.map_join.specs.Record.{Spells}
use Rattle.map_join.specs.Maps.{IsMapOf, IsListOf, IsLowestDifference, IsSame}
use Rattle.raid_c.specs.declared.status.Status.{Status}
use Rattle.raid_c.specs.declared.status.Status.TheVariants as is

-- bytes were written to the buffer: they are at its start, and the rest of it is as before
pub record IsBuffered (bytes old new : List ℕ) (count : ℕ) : Type 0 where
  pub counted : count ≡ length bytes
  pub room : length bytes ≤ length old
  pub put : new ≡ bytes ++ drop (length bytes) old

-- the buffer is too short for the bytes: the count says how many they are, and the buffer is as before
pub record LacksRoom (bytes old new : List ℕ) (count : ℕ) : Type 0 where
  pub counted : count ≡ length bytes
  pub short : length old < length bytes
  pub same : new ≡ old

-- bytes were written to the buffer, or it is too short for them
abbrev pub PutsOut : Status → List ℕ → List ℕ → List ℕ → ℕ → Type 0
PutsOut is.Done bytes old new count = IsBuffered bytes old new count
PutsOut is.Room bytes old new count = LacksRoom bytes old new count
PutsOut _ bytes old new count = ⊥

-- the bytes spell the records, one after another
abbrev pub AreRecords : List ℕ → List Record → Type 0
AreRecords bytes [] = bytes ≡ []
AreRecords bytes (r ∷ rest) = Spells (take 12 bytes) r × (0 < r.version) × AreRecords (drop 12 bytes) rest

-- each of the records has a version of at least 1
abbrev pub AreWritten : List Record → Type 0
AreWritten records = (r : Record) → Contains records r → 0 < r.version

-- a map is that of the records that the bytes spell
abbrev pub IsMapOfBytes : List ℕ → (ℕ → ℕ) → Type 0
IsMapOfBytes bytes keys = (records : List Record) × AreRecords bytes records × IsMapOf records keys

-- the list's twelve bytes of this number
abbrev pub piece : List ℕ → ℕ → List ℕ
piece bytes index = slice_range bytes (12 * index) (12 * index + 12)

-- twelve bytes of a list spell version 0
abbrev pub HasVersionZero : List ℕ → Type 0
HasVersionZero bytes =
    (index : ℕ) × (index < length bytes / 12) × (big_number 4 (drop 4 (piece bytes index)) ≡ 0)

-- the bytes are no list of records; a part of a record is found before a version
abbrev pub IsNoList : Status → List ℕ → Type 0
IsNoList is.Length bytes = length bytes % 12 ≢ 0
IsNoList is.Version bytes = (length bytes % 12 ≡ 0) × HasVersionZero bytes
IsNoList _ bytes = ⊥

-- or memory ran out
abbrev pub Refuses : Status → List ℕ → Type 0
Refuses is.Memory bytes = Unit {0}
Refuses status bytes = IsNoList status bytes

-- the second bytes spell the newest record of each block of the first, in the blocks' order
pub record IsJoinOf (bytes joined : List ℕ) : Type 0 where
  pub keys : ℕ → ℕ
  pub of_bytes : IsMapOfBytes bytes keys
  pub records : List Record
  pub newest : IsListOf keys records
  pub spelled : AreRecords joined records

-- the join of a list was written to the buffer, or it is too short; or the list is refused
abbrev pub Joins : Status → List ℕ → List ℕ → List ℕ → ℕ → Type 0
Joins is.Done bytes old new count = (joined : List ℕ) × IsJoinOf bytes joined × IsBuffered joined old new count
Joins is.Room bytes old new count = (joined : List ℕ) × IsJoinOf bytes joined × LacksRoom joined old new count
Joins status bytes old new count = Refuses status bytes × (new ≡ old) × (count ≡ 0)

-- two lists have the same map, or maps of which this is the lowest block with different keys; or the first list is refused, or
-- it isn't and the second is
abbrev pub Compares : Status → List ℕ → List ℕ → ℕ → ℕ → Type 0
Compares is.Done ours theirs old new =
    (mine yours : ℕ → ℕ) × IsMapOfBytes ours mine × IsMapOfBytes theirs yours × IsSame mine yours × (new ≡ old)
Compares is.Differs ours theirs old new =
    (mine yours : ℕ → ℕ) × IsMapOfBytes ours mine × IsMapOfBytes theirs yours × IsLowestDifference mine yours new
Compares status ours theirs old new =
    (Refuses status ours ⊎ (((mine : ℕ → ℕ) × IsMapOfBytes ours mine) × Refuses status theirs)) × (new ≡ old)
