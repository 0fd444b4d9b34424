use Rattle.std.proofs.Common.{rules}
use Rattle.map_join.proofs.records.Record.of_key.Goals as goal

pub returns-then-key-lt-LEAST_KEY : goal.returns-then-key-lt-LEAST_KEY
returns-then-key-lt-LEAST_KEY c = search rules
