use Rattle.std.proofs.Common.{rules}
use Rattle.rebalancer.proofs.groups.first_to_give.Goals as goal

pub returns-then-is_none-clause-some : goal.returns-then-is_none-clause-some
returns-then-is_none-clause-some c = search rules
