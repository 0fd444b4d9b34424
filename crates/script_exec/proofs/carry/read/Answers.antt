use Rattle.flat_machine.specs.Steps as s
use Rattle.script_syntax.specs.Order as o
use Rattle.script_exec.proofs.Carried.{reported_noted}
use Rattle.script_exec.proofs.carry.read.Goals as goal

pub returns-clause-carried : goal.returns-clause-carried
returns-clause-carried c =
    reported_noted c.put_found.result c.args.bench.now _ (o.Read c.args.block)
    (s.Read c.args.block) _ _ _ c.put_found.ensures.reported
    c.read_into-found.ensures.flat (λ P text t steps. steps)
