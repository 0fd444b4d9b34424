use Rattle.std.proofs.Common.{rules}
use Rattle.script_io.proofs.line.wrong.Goals as goal

pub returns-clause-reported : goal.returns-clause-reported
returns-clause-reported c = search rules
