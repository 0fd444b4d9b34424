use Rattle.flat_machine.specs.Steps as s
use Rattle.script_syntax.specs.Order as o
use Rattle.script_exec.proofs.Carried.{reported_noted}
use Rattle.script_exec.proofs.carry.discard.Goals as goal

pub returns-clause-carried : goal.returns-clause-carried
returns-clause-carried c =
    reported_noted c.put_answer.result c.args.bench.now _ (o.Discard c.args.worker c.args.slot)
    (s.Discard c.args.worker c.args.slot) _ _ _ c.put_answer.ensures.reported
    c.discard-answer.ensures.flat (λ P text t steps. steps)
