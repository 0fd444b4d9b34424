use Rattle.step_core.proofs.Refusals.{read_does}
use Rattle.step_core.proofs.world.World.read_into.Goals as goal

pub returns-clause-flat : goal.returns-clause-flat
returns-clause-flat g c F rep =
    read_does _ c.args.self.now c.read_into.new.self F c.args.block c.read_into.result c.read_into.new.payload c.self.view_is rep c.read_into.ensures.flat
