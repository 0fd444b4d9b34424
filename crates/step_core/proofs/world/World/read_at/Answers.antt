use Rattle.std.proofs.Common.{}
use Rattle.flat_machine.specs.Steps.{ReadAt, FoundAt}
use Rattle.step_core.specs.declared.step.Answer.TheVariants as answer
use Rattle.step_core.specs.Reported.{seen_of}
use Rattle.step_core.proofs.Worlds.{stays_world}
use Rattle.step_core.proofs.Refusals.{WasStep, array_done, array_refused, seen_sizes, refused_sizes, refused_same}
use Rattle.step_core.proofs.world.World.read_at.Goals as goal
use Rattle.step_core.proofs.world.World.read_at.Goals.{in-Ok, in-Err}

pub returns : goal.returns
returns g c =
    let v = c.args.self.now in
    let a = c.read_at.new.self in
    let asked = c.args.asked in
    let reported : WasStep v (record { array = a; hands = c.self.inside.hands }) (ReadAt asked) c.match-read_at.result =
    elim c.match-read_at.branch [
      | in-Ok w ↦
          let seen = seen_of w.in-Ok.at in
          array_done _ v a (ReadAt asked) (answer.Found w.in-Ok.at) c.match-read_at.result c.self.view_is w.result-is (seen_sizes _ a asked seen w.in-Ok.ensures.ok)
          (λ F rep shows. let y = w.in-Ok.ensures.flat F shows in stays_world v F (ReadAt asked) (FoundAt seen) a tt rep y y.1.3)
      | in-Err w ↦
          let r = w.in-Err.refusal in
          array_refused _ v a (ReadAt asked) r w.refused.result c.match-read_at.result c.self.view_is w.result-is w.refused.ensures.ok w.refused.ensures.err (λ F rep. tt)
          (refused_sizes _ a r w.in-Err.ensures.err) (refused_same _ a r w.in-Err.ensures.err) (λ F rep shows. w.in-Err.ensures.flat F shows)
    ]
    in
    record { ok = reported.ok; err = reported.err; needs = reported.needs; room = reported.room }
