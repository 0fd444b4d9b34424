use Rattle.std.proofs.Common.{}
use Rattle.flat_machine.specs.Steps.{Read, Found}
use Rattle.step_core.specs.declared.step.Answer.TheVariants as answer
use Rattle.step_core.specs.Reported.{version_of}
use Rattle.step_core.proofs.Worlds.{stays_world}
use Rattle.step_core.proofs.Refusals.{WasStep, array_done, array_refused, found_sizes, not_found_sizes, not_found_same}
use Rattle.step_core.proofs.world.World.read.Goals as goal
use Rattle.step_core.proofs.world.World.read.Goals.{in-Ok, in-Err}

pub returns : goal.returns
returns g c =
    let v = c.args.self.now in
    let a = c.read.new.self in
    let block = c.args.block in
    let reported : WasStep v (record { array = a; hands = c.self.inside.hands }) (Read block) c.match-read.result =
    elim c.match-read.branch [
      | in-Ok w ↦
          let found = w.in-Ok.found in
          array_done _ v a (Read block) (answer.Read found) c.match-read.result c.self.view_is w.result-is (found_sizes _ a block found w.in-Ok.ensures.ok)
          (λ F rep shows. let y = w.in-Ok.ensures.flat F shows in stays_world v F (Read block) (Found (version_of found)) a tt rep y y.1.2)
      | in-Err w ↦
          let r = w.in-Err.refusal in
          array_refused _ v a (Read block) r w.refused.result c.match-read.result c.self.view_is w.result-is w.refused.ensures.ok w.refused.ensures.err (λ F rep. tt)
          (not_found_sizes _ a block r w.in-Err.ensures.err) (not_found_same _ a block r w.in-Err.ensures.err) (λ F rep shows. w.in-Err.ensures.flat F shows)
    ]
    in
    record { ok = reported.ok; err = reported.err; needs = reported.needs; room = reported.room }
