use Rattle.slot_tables.specs.Views.{SameSizes}
use Rattle.tiered_array.specs.Matches.{RepresentsTiers}
use Rattle.tiered_array.specs.Tiered.{Tiered}
use Rattle.drive_evacuation.proofs.Moving.{IsMovedBy}
use Rattle.drive_evacuation.proofs.evacuation.move_all.Given as goal

-- the moves so far
abbrev pub invariant-loop : goal.invariant-loop
invariant-loop g l = record {
  room : SameSizes l.initial.tiers.world.array l.tiers.world.array;
  moved : (T : Tiered) → RepresentsTiers l.initial.tiers T → IsMovedBy l.tiers T l.drive l.counter;
}
