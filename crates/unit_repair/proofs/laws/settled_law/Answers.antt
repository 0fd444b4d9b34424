use Rattle.unit_repair.proofs.Mending.{settled_rest}
use Rattle.unit_repair.proofs.laws.settled_law.Goals as goal

pub returns : goal.returns
returns g c = λ old new lost none settled. settled_rest g.V.Vault.seen g.V.Vault.may_leave lost old new none settled
