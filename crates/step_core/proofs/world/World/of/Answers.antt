use Rattle.step_core.proofs.Restarting.{idle_world}
use Rattle.step_core.proofs.world.World.of.Goals as goal

pub returns-in-Ok-clause-flat : goal.returns-in-Ok-clause-flat
returns-in-Ok-clause-flat g c F shows idle = idle_world c.args.array c.in-Ok.hands F c.in-Ok.ensures.empty shows idle
