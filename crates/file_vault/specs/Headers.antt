-- What the first block of a file says.
use Rattle.std.specs.Prelude.{◌≡◌, ◌≢◌, ◌≤◌, ℕ, List, [], ◌∷◌}
use Rattle.std.specs.Int.{w32, from_le_bytes}
use Rattle.file_vault.specs.declared.header.Header.{Header}
use Rattle.file_vault.specs.Folders.{Bytes, Folder, part}

-- the mark of a vault's file: behkuna1
abbrev pub mark : List ℕ
mark = 98 ∷ 101 ∷ 104 ∷ 107 ∷ 117 ∷ 110 ∷ 97 ∷ 49 ∷ []

-- the number in four bytes from an offset on
abbrev pub number_at : Bytes → ℕ → ℕ
number_at f at = from_le_bytes w32 (part f at 4)

-- the header in a file's first block
abbrev pub header_at : Bytes → Header
header_at f = record { identity = part f 8 16; number = f 24; unit_bytes = number_at f 25; count = number_at f 29 }

-- a file is marked, and says this
pub record HasFileHeader (f : Bytes) (header : Header) : Type 0 where
  pub marked : part f 0 8 ≡ mark
  pub says : header ≡ header_at f

-- a file is the same but for its first block
pub record SameAfterHeader (file : ℕ) (f g : Folder) : Type 0 where
  pub following : (k : ℕ) → 4096 ≤ k → g file k ≡ f file k
  pub others : (d : ℕ) → d ≢ file → g d ≡ f d
