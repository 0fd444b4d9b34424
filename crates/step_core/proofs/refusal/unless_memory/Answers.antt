use Rattle.std.proofs.Common.{rules}
use Rattle.step_core.proofs.refusal.unless_memory.Goals as goal

pub returns-in-Memory-clause-err : goal.returns-in-Memory-clause-err
returns-in-Memory-clause-err c = search rules
