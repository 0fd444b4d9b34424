use Rattle.array_calls.proofs.Growing.{made_grows}
use Rattle.array_calls.proofs.carry.growth_law.Goals as goal

pub returns : goal.returns
returns g T call U made = made_grows T call U made
