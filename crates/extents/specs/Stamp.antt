-- The header of a record and its kind against its 32 bytes, in either of two layouts.
use Rattle.std.specs.Prelude.{◌≡◌, ◌⊎◌, ℕ, ◌<◌, List, [], ◌∷◌, ◌++◌, length, take, drop, replicate}
use Rattle.byteorder.specs.Endian.{big_number}
use Rattle.map_join.specs.declared.records.Record.{Record}
use Rattle.map_join.specs.Record.{record_bytes}
use Rattle.extents.specs.declared.header.Kind.{Kind}
use Rattle.extents.specs.declared.header.Kind.TheVariants.{Data, Trim}

-- the first four bytes of a header that isn't blank: `RBH1` in the first layout, `RBH2` in the second
abbrev pub first_mark : List ℕ
first_mark = 82 ∷ 66 ∷ 72 ∷ 49 ∷ []

abbrev pub second_mark : List ℕ
second_mark = 82 ∷ 66 ∷ 72 ∷ 50 ∷ []

-- the byte of a kind
abbrev pub kind_byte : Kind → ℕ
kind_byte Data = 0
kind_byte Trim = 1

-- bytes 4 to 15 spell a record: block, version (at least 1), hop and slot number, each the number that its bytes spell
pub record SpellsRecord (bytes : List ℕ) (r : Record) : Type 0 where
  pub whole : length bytes ≡ 32
  pub block : r.block ≡ big_number 4 (drop 4 bytes)
  pub version : r.version ≡ big_number 4 (drop 8 bytes)
  pub hop : r.hop ≡ big_number 2 (drop 12 bytes)
  pub place : r.place ≡ big_number 2 (drop 14 bytes)
  pub written : 0 < r.version

-- what lies around a record of a kind in the first layout: its mark, and sixteen zeros; each of its records is of data
abbrev pub IsFirstLayout : List ℕ → Kind → Type 0
IsFirstLayout bytes kind = (take 4 bytes ≡ first_mark) × (drop 16 bytes ≡ replicate 16 0) × (kind ≡ Data)

-- and in the second: its mark, the kind's byte, and fifteen zeros
abbrev pub IsSecondLayout : List ℕ → Kind → Type 0
IsSecondLayout bytes kind = (take 4 bytes ≡ second_mark) × (drop 16 bytes ≡ kind_byte kind ∷ replicate 15 0)

-- the bytes around the record are of one of the layouts
abbrev pub ReportsKind : List ℕ → Kind → Type 0
ReportsKind bytes kind = IsFirstLayout bytes kind ⊎ IsSecondLayout bytes kind

-- the 32 bytes of the header of a record and its kind, in the second layout
abbrev pub stamped_bytes : Record → Kind → List ℕ
stamped_bytes r kind = second_mark ++ (record_bytes r ++ kind_byte kind ∷ replicate 15 0)
