use Rattle.group_changes.proofs.Applying.{moved_as}
use Rattle.group_changes.proofs.apply.shift.Goals as goal

pub returns : goal.returns
returns c = moved_as c.args.world.now c.move_extent.new.self c.args.group c.args.member c.args.to c.in_ok-move_extent.ensures.flat
