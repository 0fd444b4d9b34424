use Rattle.flat_machine.specs.Flat.{Payload}
use Rattle.flat_machine.specs.Steps as s
use Rattle.script_syntax.specs.Order as o
use Rattle.script_exec.proofs.Carried.{reported_noted}
use Rattle.script_exec.proofs.carry.fill.Goals as goal

pub returns-clause-carried : goal.returns-clause-carried
returns-clause-carried c =
    reported_noted c.put_answer.result c.args.bench.now _ (o.Fill c.args.worker c.args.slot c.args.payload.now)
    (s.Fill c.args.worker c.args.slot (Payload c.args.payload.now)) _ _ _ c.put_answer.ensures.reported
    c.in_ok-answer.ensures.ok (λ P text t steps. steps)
