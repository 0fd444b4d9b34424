use Rattle.std.proofs.Common.{rules}
use Rattle.extents.proofs.shape.Shape.unit_address.Goals as goal

pub returns : goal.returns
returns c = search rules
