use Rattle.std.proofs.Common.{arith}
use Rattle.std.proofs.lemmas.Grind.{common_steps}
use Rattle.script_exec.proofs.texts.put_shift.Goals as goal

pub returns-clause-reported : goal.returns-clause-reported
returns-clause-reported c = grind (arith, common_steps)
