-- Numbers as a script writes them.
use Rattle.std.specs.Prelude.{◌≡◌, ℕ, ◌<◌, ◌≤◌, ◌^◌, List, slice_index}

-- a number of at most ten digits, which is how many a script may write
abbrev pub IsWritable : ℕ → Type 0
IsWritable n = n < 10 ^ 10

-- `count` leading digits may be a number: there are 1 to 10, and no zero leads two or more
pub record IsNumeral (text : List ℕ) (count : ℕ) : Type 0 where
  pub some : 0 < count
  pub few : count ≤ 10
  pub lead : 1 < count → slice_index text 0 ≡ 48 → ⊥
