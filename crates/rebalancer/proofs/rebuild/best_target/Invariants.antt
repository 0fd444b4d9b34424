use Rattle.rebalancer.specs.Rebuilding.{IsTarget}
use Rattle.rebalancer.specs.Choosing.{IsBestBelow}
use Rattle.rebalancer.proofs.rebuild.best_target.Given as goal

abbrev pub invariant-loop-drive : goal.invariant-loop-drive
invariant-loop-drive l = IsBestBelow l.extents (λ t. IsTarget l.extents l.groups l.lost l.group t) l.drive l.best
