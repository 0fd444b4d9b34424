use Rattle.std.proofs.Common.{rules}
use Rattle.step_core.proofs.world.World.is_free.Goals as goal

pub returns-in-Empty : goal.returns-in-Empty
returns-in-Empty g c = search rules
