use Rattle.std.proofs.Common.{}
use Rattle.flat_machine.specs.Steps.{Make}
use Rattle.step_core.specs.declared.step.Answer.TheVariants.{Made}
use Rattle.step_core.proofs.Worlds.{make_world}
use Rattle.step_core.proofs.Refusals.{WasStep, array_done, array_refused, refused_same, refused_sizes, made_sizes}
use Rattle.step_core.proofs.world.World.make.Goals as goal
use Rattle.step_core.proofs.world.World.make.Goals.{in-Ok, in-Err}

pub returns : goal.returns
returns g c =
    let v = c.args.self.now in
    let a = c.make_group.new.self in
    let class = c.args.class in
    let members = c.args.members.now in
    let reported : WasStep v (record { array = a; hands = c.self.inside.hands }) (Make class members) c.match-make_group.result =
    elim c.match-make_group.branch [
      | in-Ok w ↦
          let g = w.in-Ok.group in
          array_done _ v a (Make class members) (Made g) c.match-make_group.result c.self.view_is w.result-is (made_sizes _ a g class members w.in-Ok.ensures.ok)
          (λ F rep shows. make_world v F class members g a rep (w.in-Ok.ensures.flat F shows))
      | in-Err w ↦
          let r = w.in-Err.refusal in
          array_refused _ v a (Make class members) r w.refused.result c.match-make_group.result c.self.view_is w.result-is w.refused.ensures.ok w.refused.ensures.err (λ F rep. tt)
          (refused_sizes _ a r w.in-Err.ensures.err) (refused_same _ a r w.in-Err.ensures.err) (λ F rep shows. w.in-Err.ensures.flat F shows)
    ]
    in
    record { ok = reported.ok; err = reported.err; needs = reported.needs; room = reported.room }
