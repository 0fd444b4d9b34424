use Rattle.std.proofs.Common.{rules}
use Rattle.extent_groups.proofs.geometry.passed_over.Goals as goal

pub returns-else-others-parity : goal.returns-else-others-parity
returns-else-others-parity c = search rules
