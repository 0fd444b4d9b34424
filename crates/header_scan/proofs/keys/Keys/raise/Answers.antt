use Rattle.std.proofs.Common.{rules}
use Rattle.header_scan.proofs.keys.Keys.raise.Goals as goal

pub invariant_of-self : goal.invariant_of-self
invariant_of-self c = search rules

pub returns-clause-ok : goal.returns-clause-ok
returns-clause-ok c = search rules
