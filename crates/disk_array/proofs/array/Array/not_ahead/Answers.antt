use Rattle.std.proofs.Common.{rules}
use Rattle.disk_array.proofs.array.Array.not_ahead.Goals as goal

pub returns-clause-ok : goal.returns-clause-ok
returns-clause-ok g c = search rules
