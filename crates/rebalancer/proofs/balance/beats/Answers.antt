use Rattle.std.proofs.Common.{rules}
use Rattle.rebalancer.proofs.balance.beats.Goals as goal

pub returns-in-Some : goal.returns-in-Some
returns-in-Some c = search rules
