use Rattle.unit_store.specs.Shifting.{AreOnTarget}
use Rattle.unit_store.proofs.relocate.shift_units.Given as goal

abbrev pub invariant-loop-offset : goal.invariant-loop-offset
invariant-loop-offset g l = AreOnTarget g.D.Drive.units g.D.Drive.lost g.D.Drive.failures l.groups l.at.group l.at.member l.at.from l.at.to l.offset l.fn.drives l.drives
