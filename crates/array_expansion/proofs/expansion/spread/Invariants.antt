use Rattle.slot_tables.specs.Views.{SameSizes}
use Rattle.tiered_array.specs.Matches.{RepresentsTiers}
use Rattle.tiered_array.specs.Tiered.{Tiered}
use Rattle.array_expansion.proofs.Falling.{IsSpreadBy}
use Rattle.array_expansion.proofs.expansion.spread.Given as goal

-- the moves so far
abbrev pub invariant-loop : goal.invariant-loop
invariant-loop g l = record {
  room : SameSizes l.initial.tiers.world.array l.tiers.world.array;
  spread : (T : Tiered) → RepresentsTiers l.initial.tiers T → IsSpreadBy l.tiers T l.counter;
}
