use Rattle.std.proofs.Common.{rules}
use Rattle.extent_groups.proofs.geometry.two_copies.Goals as goal

pub returns : goal.returns
returns c = search rules
