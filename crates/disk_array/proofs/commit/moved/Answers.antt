use Rattle.std.proofs.Common.{rules}
use Rattle.disk_array.proofs.commit.moved.Goals as goal

pub returns-clause-ok : goal.returns-clause-ok
returns-clause-ok c = search rules
