use Rattle.std.proofs.Common.{rules}
use Rattle.rebalancer.proofs.balance.may_give.Goals as goal

pub returns-then-saturating_sub-ge2 : goal.returns-then-saturating_sub-ge2
returns-then-saturating_sub-ge2 c = search rules
