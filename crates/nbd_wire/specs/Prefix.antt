-- A buffer keeps its bytes when others are appended, also if an allocation fails half-way.
use Rattle.std.specs.Prelude.{◌≡◌, ℕ, List, ◌++◌}

-- the old bytes are a prefix of the new ones
pub record IsPrefix (old new : List ℕ) : Type 0 where
  pub more : List ℕ
  pub out : new ≡ old ++ more
