use Rattle.std.proofs.Common.{rules}
use Rattle.map_join.proofs.records.Record.key.Goals as goal

pub returns-clause-value : goal.returns-clause-value
returns-clause-value c = search rules

pub returns-clause-again : goal.returns-clause-again
returns-clause-again c = search rules
