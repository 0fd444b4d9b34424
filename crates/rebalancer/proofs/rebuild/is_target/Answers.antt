use Rattle.std.proofs.Common.{rules}
use Rattle.rebalancer.proofs.rebuild.is_target.Goals as goal

pub returns-then-has_room : goal.returns-then-has_room
returns-then-has_room c = search rules
