use Rattle.extent_groups.specs.Calls.{KeepsDrives}
use Rattle.vault.specs.Marks.{Has}
use Rattle.rotten_units.proofs.compute.add_group.Given as goal

abbrev pub invariant-loop-member : goal.invariant-loop-member
invariant-loop-member g l = KeepsDrives g.D.Drive.units g.D.Drive.lost g.D.Drive.failures (Has l.rotten.marks.items) l.fn.drives l.drives

abbrev pub invariant-loop-offset : goal.invariant-loop-offset
invariant-loop-offset g l = KeepsDrives g.D.Drive.units g.D.Drive.lost g.D.Drive.failures (Has l.rotten.marks.items) l.fn.drives l.drives
