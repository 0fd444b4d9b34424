use Rattle.unit_store.specs.Making.{AreWipedTo}
use Rattle.unit_store.proofs.make.wipe_members.Given as goal

abbrev pub invariant-loop-member : goal.invariant-loop-member
invariant-loop-member g l = AreWipedTo g.D.Drive.units g.D.Drive.lost g.D.Drive.failures l.shape.segments l.members l.zeros l.member-index l.fn.drives l.drives
