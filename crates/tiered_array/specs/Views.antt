-- A world with its planner and the slots that may be free, as a caller sees them.
use Rattle.std.specs.Prelude.{ℕ, List}
use Rattle.slot_tables.specs.Views.{WorldView}
use Rattle.tiered_array.specs.declared.planner.Planner.{Planner}

-- the world, what its plans depend on, and a bit for each slot that may be free in a mirrored group, and in a parity group
pub record TiersView : Type 0 where
  pub world : WorldView
  pub planner : Planner
  pub hints : List ℕ
  pub holes : List ℕ
