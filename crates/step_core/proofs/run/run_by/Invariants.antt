use Rattle.std.proofs.Common.{◌≡◌, ◌≤◌, take, map, length, vec_len, vec_capacity}
use Rattle.flat_machine.specs.Flat.{Flat}
use Rattle.step_core.proofs.Runnings.{StandingRun}
use Rattle.step_core.specs.Headline.{StepsTo}
use Rattle.step_core.specs.Reported.{flat_answer, flat_step}
use Rattle.slot_tables.specs.Represents.{Represents}
use Rattle.slot_tables.specs.Views.{SameSizes}
use Rattle.step_core.proofs.run.run_by.Given as goal

abbrev pub invariant-loop-at : goal.invariant-loop-at
invariant-loop-at g l = record {
  runs : (F : Flat) → Represents l.fn.world F
      → (G : Flat) × (StandingRun F (map flat_step (take l.at l.steps)) (map flat_answer l.answers.items) G) × (Represents l.world G);
  worlds : StepsTo l.fn.world (take l.at l.steps) l.answers.items l.world;
  sizes : SameSizes l.fn.world.array l.world.array;
  count : vec_len l.answers ≡ l.at;
  room : length l.steps ≤ vec_capacity l.answers;
}
