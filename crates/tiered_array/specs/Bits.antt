-- Bits of words of 64, and of tables of such words.
use Rattle.std.specs.Prelude.{◌≡◌, ◌⊎◌, ℕ, ◌/◌, ◌%◌, ◌<◌, List, slice_index, Option, Some, None}
use Rattle.std.specs.Int.{bit_at}

-- the word has the bit
abbrev pub HasBit : ℕ → ℕ → Type 0
HasBit word bit = bit_at word bit ≡ 1

-- bit n of a table is bit n % 64 of its word n / 64
abbrev pub HasBitAt : List ℕ → ℕ → Type 0
HasBitAt words n = HasBit (slice_index words (n / 64)) (n % 64)

-- the first table's bits are among those of the second
abbrev pub AreAmong : List ℕ → List ℕ → Type 0
AreAmong is was = (n : ℕ) → HasBitAt is n → HasBitAt was n

-- the lowest bit that the word has, or none where it has none
abbrev pub IsLowestBit : ℕ → Option ℕ → Type 0
IsLowestBit word None = word ≡ 0
IsLowestBit word (Some bit) = (bit < 64) × HasBit word bit × ((lower : ℕ) → lower < bit → HasBit word lower → ⊥)

-- the bit is set, and no other bit changed
pub record IsBitSet (was is : List ℕ) (at : ℕ) : Type 0 where
  pub here : HasBitAt is at
  pub keeps : AreAmong was is
  pub only : (n : ℕ) → HasBitAt is n → (n ≡ at) ⊎ HasBitAt was n

-- the bit was cleared, and no other bit changed
pub record IsBitCleared (was is : List ℕ) (at : ℕ) : Type 0 where
  pub gone : HasBitAt is at → ⊥
  pub fewer : AreAmong is was
  pub others : (n : ℕ) → (n ≡ at → ⊥) → HasBitAt was n → HasBitAt is n
