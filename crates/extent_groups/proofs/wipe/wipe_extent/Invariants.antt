use Rattle.extent_groups.specs.Wiping.{IsWipedTo}
use Rattle.extent_groups.proofs.wipe.wipe_extent.Given as goal

abbrev pub invariant-loop-offset : goal.invariant-loop-offset
invariant-loop-offset g l = IsWipedTo g.D.Drive.units g.D.Drive.lost g.D.Drive.failures l.shape.segments l.member l.zeros l.offset l.fn.drives l.drives
