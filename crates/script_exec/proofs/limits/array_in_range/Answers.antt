use Rattle.std.proofs.Common.{rules}
use Rattle.script_exec.proofs.limits.array_in_range.Goals as goal

pub returns-clause-some : goal.returns-clause-some
returns-clause-some c = search rules
