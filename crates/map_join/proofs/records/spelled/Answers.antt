use Rattle.std.proofs.Common.{rules}
use Rattle.map_join.proofs.records.spelled.Goals as goal

pub returns-clause-value : goal.returns-clause-value
returns-clause-value c = search rules
