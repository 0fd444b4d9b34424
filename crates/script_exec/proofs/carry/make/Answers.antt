use Rattle.std.proofs.Common.{◌∙◌}
use Rattle.script_exec.specs.Answers.{members_named}
use Rattle.flat_machine.specs.Steps as s
use Rattle.script_syntax.specs.Order as o
use Rattle.script_exec.proofs.Carried.{reported_noted}
use Rattle.script_exec.proofs.carry.make.Goals as goal

pub returns-clause-carried : goal.returns-clause-carried
returns-clause-carried c =
    reported_noted c.put_answer.result c.args.bench.now _ (o.Make c.args.class c.args.named.now)
    (s.Make c.args.class (members_named c.args.named.now)) _ _ _ c.put_answer.ensures.reported
    (rw (c.deref.ensures.value ∙ c.in_ok-members.ensures) at c.in_ok-answer.ensures.ok) (λ P text t steps. steps)
