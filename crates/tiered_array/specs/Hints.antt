-- Slots that may be free, and where the lowest of them is looked for: a bit for each slot, and one above each row of 64 slots.
use Rattle.std.specs.Prelude.{◌≡◌, ℕ, ◌/◌, ◌≤◌, List, length, Option, Some, None}
use Rattle.tiered_array.specs.Bits.{HasBitAt, AreAmong}

-- the slot may be free
abbrev pub IsHinted : List ℕ → ℕ → Type 0
IsHinted slots s = HasBitAt slots s

-- each row of slots in which a bit is set has its own bit set in the table of rows
pub record AreHints (slots rows : List ℕ) : Type 0 where
  pub all : length slots ≡ 1024
  pub few : length rows ≡ 16
  pub above : (s : ℕ) → IsHinted slots s → HasBitAt rows (s / 64)

-- no bit was set, and no bit of a free slot was cleared
pub record IsSought (was is : List ℕ) (free : ℕ → Type 0) : Type 0 where
  pub less : AreAmong is was
  pub keeps : (s : ℕ) → IsHinted was s → free s → IsHinted is s

-- the lowest hinted slot of a part of the slots, which is free
pub record IsLowestHint (within : ℕ → Type 0) (slots : List ℕ) (free : ℕ → Type 0) (slot : ℕ) : Type 0 where
  pub inside : within slot
  pub hinted : IsHinted slots slot
  pub is_free : free slot
  pub least : (s : ℕ) → within s → IsHinted slots s → slot ≤ s

-- the lowest hinted slot of a part of the slots, which is free; none where no slot of the part is hinted
abbrev pub IsFirstHint : (ℕ → Type 0) → List ℕ → (ℕ → Type 0) → Option ℕ → Type 0
IsFirstHint within slots free None = (s : ℕ) → within s → IsHinted slots s → ⊥
IsFirstHint within slots free (Some slot) = IsLowestHint within slots free slot

-- the slots of a row, those of the 64 rows whose bits one word has, and all
abbrev pub InRow : ℕ → ℕ → Type 0
InRow row s = s / 64 ≡ row

abbrev pub InRows : ℕ → ℕ → Type 0
InRows word s = s / 64 / 64 ≡ word

abbrev pub Anywhere : ℕ → Type 0
Anywhere s = Unit {0}
