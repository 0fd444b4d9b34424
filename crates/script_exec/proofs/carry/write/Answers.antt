use Rattle.flat_machine.specs.Flat.{Payload}
use Rattle.tiered_array.specs.Steps as tier
use Rattle.script_syntax.specs.Order as o
use Rattle.script_exec.proofs.Carried.{reported_tier}
use Rattle.script_exec.proofs.carry.write.Goals as goal

pub returns-clause-carried : goal.returns-clause-carried
returns-clause-carried c w =
    reported_tier c.put_outcome.result c.args.bench.now c.write.new.self (o.Write w c.args.block c.args.payload.now) (tier.Write w c.args.block (Payload c.args.payload.now)) c.in_ok-outcome.outcome _ _ c.put_outcome.ensures.reported
    (c.in_ok-outcome.ensures.ok w) (λ P text t steps. steps)
