use Rattle.std.proofs.Common.{arith}
use Rattle.std.proofs.lemmas.Fmt.{decimal_digit}
use Rattle.script_exec.proofs.texts.put_version.Goals as goal

pub returns-then-version-lt10-clause-reported : goal.returns-then-version-lt10-clause-reported
returns-then-version-lt10-clause-reported c = rw (decimal_digit c.args.version (omega arith)) c.put.ensures.reported
