use Rattle.map_join.proofs.Spelling.{spells}
use Rattle.map_join.proofs.records.Record.to_bytes.Goals as goal

pub returns-clause-again : goal.returns-clause-again
returns-clause-again c =
    let ranges = c.spelled.ensures.ranges in
    rw c.spelled.ensures.value (spells c.args.self.now ranges.0 ranges.1 ranges.2 ranges.3)
