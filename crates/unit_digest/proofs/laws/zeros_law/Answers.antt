use Rattle.unit_digest.proofs.Digested.{zeros_differ}
use Rattle.unit_digest.proofs.laws.zeros_law.Goals as goal

pub returns : goal.returns
returns c drive address bytes ld la = zeros_differ drive address bytes ld la
