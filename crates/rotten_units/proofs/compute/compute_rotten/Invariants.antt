use Rattle.extent_groups.specs.Calls.{KeepsDrives}
use Rattle.vault.specs.Marks.{Has}
use Rattle.rotten_units.proofs.compute.compute_rotten.Given as goal

abbrev pub invariant-loop-group : goal.invariant-loop-group
invariant-loop-group g l = KeepsDrives g.D.Drive.units g.D.Drive.lost g.D.Drive.failures (Has l.rotten.marks.items) l.fn.drives l.drives
