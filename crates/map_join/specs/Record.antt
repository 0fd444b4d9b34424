-- A record of a commit: which block, which version of it, how many moves since, and the slot where it lies.
use Rattle.std.specs.Prelude.{◌≡◌, ℕ, ◌+◌, ◌*◌, ◌/◌, ◌%◌, ◌^◌, ◌<◌, List, ◌++◌, length, drop, Option, Some, None, nat_lt, if◌then◌else◌}
use Rattle.byteorder.specs.Endian.{big_bytes, big_number}
use Rattle.map_join.specs.declared.records.Record.{Record}

-- the number by which two records of one block are compared: version first, then hop, then place
abbrev pub key_of : Record → ℕ
key_of r = r.version * 2 ^ 32 + r.hop * 2 ^ 16 + r.place

-- a version and a hop as one number: of two records of a block, the one of the greater stamp is the newer
abbrev pub stamp : ℕ → ℕ → ℕ
stamp version hop = version * 2 ^ 16 + hop

-- the stamp of a record, and of the record that has a key
abbrev pub stamp_of : Record → ℕ
stamp_of r = stamp r.version r.hop

abbrev pub stamp_in : ℕ → ℕ
stamp_in key = key / 2 ^ 16

-- the record of a block that has this key
abbrev pub record_of : ℕ → ℕ → Record
record_of block key = record { block = block; version = key / 2 ^ 32; hop = key / 2 ^ 16 % 2 ^ 16; place = key % 2 ^ 16 }

-- the record of a block that has this key; no number below 2^32 is a record's key
abbrev pub record_at : ℕ → ℕ → Option Record
record_at block key = if nat_lt key (2 ^ 32) then None else Some (record_of block key)

-- each field is in its range, and the version is no 0
pub record IsRecord (r : Record) : Type 0 where
  pub block : r.block < 2 ^ 32
  pub written : 0 < r.version
  pub version : r.version < 2 ^ 32
  pub hop : r.hop < 2 ^ 16
  pub place : r.place < 2 ^ 16

-- the twelve bytes of a record: block, version, hop and place, each with its highest byte first
abbrev pub record_bytes : Record → List ℕ
record_bytes r = big_bytes 4 r.block ++ (big_bytes 4 r.version ++ (big_bytes 2 r.hop ++ big_bytes 2 r.place))

-- the fields are the numbers that the twelve bytes spell
pub record Spells (bytes : List ℕ) (r : Record) : Type 0 where
  pub length : length bytes ≡ 12
  pub block : r.block ≡ big_number 4 bytes
  pub version : r.version ≡ big_number 4 (drop 4 bytes)
  pub hop : r.hop ≡ big_number 2 (drop 8 bytes)
  pub place : r.place ≡ big_number 2 (drop 10 bytes)
