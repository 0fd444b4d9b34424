-- Keys by block, as a table that is indexed by block.
use Rattle.std.specs.Prelude.{ℕ, ◌^◌, ◌<◌, ◌≤◌, List, slice_index}

-- each is a record's key, or 0
abbrev pub IsKeyTable : List ℕ → Type 0
IsKeyTable keys = (block : ℕ) → 0 < slice_index keys block → 2 ^ 32 ≤ slice_index keys block
