use Rattle.std.proofs.Common.{rules}
use Rattle.header_scan.proofs.found.Found.twins_of.Goals as goal

pub returns-then-stamp_of : goal.returns-then-stamp_of
returns-then-stamp_of c = search rules
