use Rattle.rotten_units.proofs.Same.{used_same_by}
use Rattle.rotten_units.proofs.laws.same_units_law.Goals as goal

pub returns : goal.returns
returns c = λ groups c d noted is also one same. used_same_by groups c d noted is also one same
