use Rattle.std.proofs.Common.{rules}
use Rattle.extent_groups.proofs.change.put_check.Goals as goal

pub returns-then-is_any_owned : goal.returns-then-is_any_owned
returns-then-is_any_owned c = search rules

pub returns : goal.returns
returns c = search rules
