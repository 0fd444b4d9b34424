use Rattle.std.proofs.Common.{◌≡◌, arith, subst}
use Rattle.rebalancer.specs.Rebuilding.{IsTarget}
use Rattle.rebalancer.specs.Choosing.{IsBestBelow}
use Rattle.rebalancer.proofs.Targets.{best_of_all, none_of_all}
use Rattle.rebalancer.proofs.rebuild.best_target.Goals as goal

pub returns-clause-some : goal.returns-clause-some
returns-clause-some c =
    let end : c.loop-drive.drive ≡ 16 = omega (arith, c.loop-drive-test.false, c.loop-drive.auto.drive-end) in
    best_of_all c.args.extents.now c.args.groups.now c.args.lost.now c.args.group c.loop-drive.best c.told-lost
    (subst (λ n. IsBestBelow c.args.extents.now (λ t. IsTarget c.args.extents.now c.args.groups.now c.args.lost.now c.args.group t) n c.loop-drive.best) end c.loop-drive.invariant)

pub returns-clause-none : goal.returns-clause-none
returns-clause-none c =
    let end : c.loop-drive.drive ≡ 16 = omega (arith, c.loop-drive-test.false, c.loop-drive.auto.drive-end) in
    none_of_all c.args.extents.now c.args.groups.now c.args.lost.now c.args.group c.loop-drive.best c.told-lost
    (subst (λ n. IsBestBelow c.args.extents.now (λ t. IsTarget c.args.extents.now c.args.groups.now c.args.lost.now c.args.group t) n c.loop-drive.best) end c.loop-drive.invariant)
