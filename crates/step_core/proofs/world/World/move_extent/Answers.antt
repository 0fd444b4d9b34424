use Rattle.step_core.proofs.Refusals.{moves}
use Rattle.step_core.proofs.world.World.move_extent.Goals as goal

pub returns-clause-flat : goal.returns-clause-flat
returns-clause-flat g c F rep =
    moves _ c.args.self.now c.move_extent.new.self c.args.group c.args.member c.args.to c.move_extent.result c.self.view_is c.move_extent.ensures.flat F rep
