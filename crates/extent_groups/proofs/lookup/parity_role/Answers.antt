use Rattle.std.proofs.Common.{rules}
use Rattle.extent_groups.proofs.lookup.parity_role.Goals as goal

pub returns : goal.returns
returns c = search rules
