use Rattle.std.proofs.Common.{◌≡◌, length}
use Rattle.std.specs.Vec.{vec_capacity}
use Rattle.migrator.proofs.Packed.{ArePacked}
use Rattle.migrator.proofs.turns.Turns.pack.Given as goal

abbrev pub invariant-loop-at : goal.invariant-loop-at
invariant-loop-at l = record {
  room : vec_capacity l.self-inside.later ≡ vec_capacity l.initial.self-inside.later;
  packed : ArePacked (length l.initial.self-inside.turns) l.initial.self-inside.later.items l.initial.self-inside.turns l.self-inside.later.items l.self-inside.turns l.packed l.at;
}
