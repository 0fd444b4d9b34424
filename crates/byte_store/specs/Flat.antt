-- What a store of bytes is, seen from outside.
use Rattle.std.specs.Prelude.{ℕ, List, Bool, ◌+◌, ◌++◌, length, take, drop}

-- the bytes by offset, and whether some were changed since the last flush that succeeded
pub record StoreState : Type 0 where
  pub bytes : List ℕ
  pub unsynced : Bool

-- how many bytes a store has, and a request that it carries out best
pub record Sizes : Type 0 where
  pub bytes : ℕ
  pub block : ℕ

-- the bytes with others written over them from an offset on
abbrev pub written_over : List ℕ → ℕ → List ℕ → List ℕ
written_over held offset bytes = take offset held ++ (bytes ++ drop (offset + length bytes) held)
