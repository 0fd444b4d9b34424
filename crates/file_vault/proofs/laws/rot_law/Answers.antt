use Rattle.file_vault.proofs.Units.{attested_held}
use Rattle.file_vault.proofs.laws.rot_law.Goals as goal

pub returns : goal.returns
returns c plan f g returned x attested = attested_held plan f g x (returned x) attested
