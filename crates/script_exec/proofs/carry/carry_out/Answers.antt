use Rattle.std.proofs.Common.{rules}
use Rattle.script_exec.proofs.carry.carry_out.Goals as goal

pub returns-in-Copy-clause-carried : goal.returns-in-Copy-clause-carried
returns-in-Copy-clause-carried c = search rules
