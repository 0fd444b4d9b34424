use Rattle.disk_array.proofs.Beginnings.{new_world}
use Rattle.step_core.proofs.world.World.new.Goals as goal

pub returns-in-Ok-clause-ok : goal.returns-in-Ok-clause-ok
returns-in-Ok-clause-ok c =
    new_world c.in_ok-array.array c.in-Ok.hands c.args.drives c.in-Ok.ensures.empty c.in_ok-array.ensures.ok
