use Rattle.tiered_array.specs.Regrouping.{BalanceCase}
use Rattle.script_syntax.specs.Order as o
use Rattle.script_exec.proofs.Regrouped.{reported_regroup}
use Rattle.script_exec.proofs.carry.balance.Goals as goal

pub returns-clause-carried : goal.returns-clause-carried
returns-clause-carried c =
    reported_regroup c.put_regrouped.result c.args.bench.now c.balance.new.self o.Balance BalanceCase c.in_ok-outcome.outcome _ _ c.put_regrouped.ensures.reported
    c.in_ok-outcome.ensures.ok (λ P text t steps. steps)
