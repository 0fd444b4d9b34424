use Rattle.unit_repair.proofs.Whole.{shows_same}
use Rattle.unit_repair.proofs.laws.shown_law.Goals as goal

pub returns : goal.returns
returns c = λ groups a b shown sound same. shows_same groups a b sound same shown
