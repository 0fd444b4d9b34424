use Rattle.std.proofs.Common.{rules}
use Rattle.header_scan.proofs.look.judge.Goals as goal

pub returns-then-record-slot-clause-err : goal.returns-then-record-slot-clause-err
returns-then-record-slot-clause-err c = search rules

pub returns-clause-ok : goal.returns-clause-ok
returns-clause-ok c = search rules
