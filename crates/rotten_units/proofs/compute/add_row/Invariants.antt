use Rattle.extent_groups.specs.Calls.{KeepsDrives, NoPlace}
use Rattle.rotten_units.proofs.compute.add_row.Given as goal

abbrev pub invariant-loop-member : goal.invariant-loop-member
invariant-loop-member g l = KeepsDrives g.D.Drive.units g.D.Drive.lost g.D.Drive.failures NoPlace l.fn.drives l.drives
