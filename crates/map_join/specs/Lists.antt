-- Ascending lists of exactly the numbers that have a property.
use Rattle.std.specs.Prelude.{◌≡◌, ◌↔◌, ℕ, ◌<◌, List, Contains, length}
use Rattle.std.specs.List.Sorted.{IsStrictlyIncreasing}

-- exactly the numbers that have the property P, ascending
pub record Lists (P : ℕ → Type 0) (numbers : List ℕ) : Type 0 where
  pub rising : IsStrictlyIncreasing numbers
  pub each : (n : ℕ) → Contains numbers n ↔ P n

-- the numbers below a bound that have the property P, ascending, for loops
pub record ListsBelow (P : ℕ → Type 0) (bound : ℕ) (numbers : List ℕ) : Type 0 where
  pub rising : IsStrictlyIncreasing numbers
  pub each : (n : ℕ) → Contains numbers n ↔ ((n < bound) × P n)

-- exactly `count` numbers have the property P
abbrev pub IsCount : (ℕ → Type 0) → ℕ → Type 0
IsCount P count = (numbers : List ℕ) × Lists P numbers × (length numbers ≡ count)
