use Rattle.step_core.proofs.Restarting.{idle_world}
use Rattle.step_core.proofs.world.World.at_rest.Goals as goal

pub returns-clause-flat : goal.returns-clause-flat
returns-clause-flat g c F shows idle = idle_world c.args.array c.clear_all.new.self F c.clear_all.ensures.empty shows idle
