-- States of a script all of whose drives are steady.
use Rattle.std.specs.Prelude.{ℕ, List, [], ◌∷◌, Contains, Some, None}
use Rattle.extent_groups.specs.Groups.{Groups}
use Rattle.tiered_array.specs.Tiered.{Tiered}
use Rattle.script_exec.specs.State.{State}
use Rattle.script_laws.specs.Steady.{IsReached}

-- a list has each number once
abbrev pub AreDistinct : List ℕ → Type 0
AreDistinct [] = Unit {0}
AreDistinct (x ∷ xs) = (Contains xs x → ⊥) × AreDistinct xs

-- the flat state is steady and reached by steps, and the order of last writes has each block once
pub record IsTiered (z : Groups) (T : Tiered) : Type 0 where
  pub reached : IsReached z T.flat
  pub distinct : AreDistinct T.order

-- no array yet, or one whose flat state is steady and reached, with each block once in its order of last writes
abbrev pub IsOneBench : State → Type 0
IsOneBench None = Unit {0}
IsOneBench (Some P) = IsTiered P.tiers.flat.groups P.tiers
