use Rattle.step_core.proofs.Standing.{matches}
use Rattle.step_core.proofs.run.represented_matches.Goals as goal

pub returns : goal.returns
returns c = matches
