use Rattle.std.proofs.Common.{rules}
use Rattle.script_exec.proofs.maps.take_into.Goals as goal

pub returns-clause-newest : goal.returns-clause-newest
returns-clause-newest c = search rules
