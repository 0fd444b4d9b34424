use Rattle.std.proofs.Common.{rules}
use Rattle.map_join.proofs.records.Record.of_bytes.Goals as goal

pub returns-then-version-eq0-clause-ok : goal.returns-then-version-eq0-clause-ok
returns-then-version-eq0-clause-ok c = search rules
