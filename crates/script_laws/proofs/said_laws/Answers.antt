use Rattle.script_laws.proofs.Scripts.{says_once}
use Rattle.script_laws.proofs.said_laws.Goals as goal

pub returns : goal.returns
returns c = record { once = says_once }
