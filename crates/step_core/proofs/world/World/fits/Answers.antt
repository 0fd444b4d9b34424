use Rattle.std.proofs.Common.{rules}
use Rattle.step_core.proofs.world.World.fits.Goals as goal

pub returns-in-Read : goal.returns-in-Read
returns-in-Read g c = search rules
