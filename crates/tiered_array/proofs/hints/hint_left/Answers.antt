use Rattle.std.proofs.Common.{rules}
use Rattle.tiered_array.proofs.hints.hint_left.Goals as goal

pub returns-in-Some-clause-left : goal.returns-in-Some-clause-left
returns-in-Some-clause-left c = search rules
