-- A batch as bytes: how many writes it has, of each its drive, its address, and where its unit begins and ends among the units'
-- bytes, and these bytes. Each number has eight bytes, the lowest first.
use Rattle.std.specs.Prelude.{◌≡◌, ◌≤◌, ◌<◌, ◌^◌, ◌+◌, ◌*◌, ℕ, zero, suc, List, [], ◌∷◌, ◌++◌, length, take, drop}
use Rattle.std.specs.Int.{w64, to_le_bytes, from_le_bytes}
use Rattle.extent_groups.specs.Planned.{Intended}
use Rattle.vault.specs.declared.batch.Entry.{Entry}
use Rattle.vault.specs.Entries.{writes_in}

-- a number's eight bytes, and the number with which bytes begin
unfoldable pub word : ℕ → List ℕ
word n = to_le_bytes w64 n

unfoldable pub number : List ℕ → ℕ
number bytes = from_le_bytes w64 (take 8 bytes)

-- an entry's 32 bytes, and the entry with which bytes begin
abbrev pub entry_code : Entry → List ℕ
entry_code e = word e.place.drive ++ (word e.place.address ++ (word e.from ++ word e.to))

abbrev pub entry_at : List ℕ → Entry
entry_at bytes = record {
  place = record { drive = number bytes; address = number (drop 8 bytes) };
  from = number (drop 16 bytes);
  to = number (drop 24 bytes);
}

abbrev pub entries_code : List Entry → List ℕ
entries_code [] = []
entries_code (e ∷ es) = entry_code e ++ entries_code es

abbrev pub entries_at : ℕ → List ℕ → List Entry
entries_at zero bytes = []
entries_at (suc n) bytes = entry_at bytes ∷ entries_at n (drop 32 bytes)

abbrev pub code : List ℕ → List Entry → List ℕ
code units es = word (length es) ++ (entries_code es ++ units)

-- the bytes of the units
abbrev pub packed_units : List ℕ → List ℕ
packed_units bytes = drop (32 * number bytes) (drop 8 bytes)

-- the writes that bytes represent
abbrev pub decoded : List ℕ → List Intended
decoded bytes = writes_in (packed_units bytes) (entries_at (number bytes) (drop 8 bytes))

-- an entry's numbers are in range, for a number of bytes of units
pub record IsGoodEntry (units : ℕ) (e : Entry) : Type 0 where
  pub drive : e.place.drive < 2 ^ 8
  pub address : e.place.address < 2 ^ 32
  pub ordered : e.from ≤ e.to
  pub inside : e.to ≤ units

abbrev pub AreGood : ℕ → List Entry → Type 0
AreGood units [] = Unit {0}
AreGood units (e ∷ es) = IsGoodEntry units e × AreGood units es

-- bytes that represent a batch
pub record IsCode (bytes : List ℕ) : Type 0 where
  pub counted : 8 ≤ length bytes
  pub table : 8 + 32 * number bytes ≤ length bytes
  pub entries : AreGood (length (packed_units bytes)) (entries_at (number bytes) (drop 8 bytes))

-- the numbers of each entry have their types' ranges
abbrev pub IsSmall : Entry → Type 0
IsSmall e = (e.place.drive < 2 ^ 8) × (e.place.address < 2 ^ 32) × (e.from < 2 ^ 64) × (e.to < 2 ^ 64)

abbrev pub AreSmall : List Entry → Type 0
AreSmall [] = Unit {0}
AreSmall (e ∷ es) = IsSmall e × AreSmall es

-- bytes with a batch after them
pub record Encodes (old new : List ℕ) (writes : List Intended) : Type 0 where
  pub code : List ℕ
  pub bytes : new ≡ old ++ code
  pub is : IsCode code
  pub back : decoded code ≡ writes
