use Rattle.std.proofs.Common.{rules}
use Rattle.migrator.proofs.log_end.LogEnd.appended.Goals as goal

pub returns : goal.returns
returns c = search rules
