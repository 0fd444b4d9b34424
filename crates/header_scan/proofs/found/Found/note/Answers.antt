use Rattle.std.proofs.Common.{rules}
use Rattle.header_scan.proofs.found.Found.note.Goals as goal

pub returns-then-stamp-stamp_in-clause-newer : goal.returns-then-stamp-stamp_in-clause-newer
returns-then-stamp-stamp_in-clause-newer c = search rules

pub returns-clause-newer : goal.returns-clause-newer
returns-clause-newer c = search rules
