use Rattle.std.proofs.Common.{rules}
use Rattle.script_exec.proofs.texts.put_answer.Goals as goal

pub returns-in-Found-clause-reported : goal.returns-in-Found-clause-reported
returns-in-Found-clause-reported c = search rules
