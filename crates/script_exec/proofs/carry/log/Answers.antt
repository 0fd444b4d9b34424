use Rattle.std.proofs.Common.{rules}
use Rattle.script_exec.proofs.carry.log.Goals as goal

pub returns-clause-carried : goal.returns-clause-carried
returns-clause-carried c = search rules
