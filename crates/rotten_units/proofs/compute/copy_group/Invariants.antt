use Rattle.extent_groups.specs.Calls.{KeepsDrives}
use Rattle.vault.specs.Marks.{Has}
use Rattle.rotten_units.proofs.compute.copy_group.Given as goal

abbrev pub invariant-loop-index : goal.invariant-loop-index
invariant-loop-index g l = KeepsDrives g.D.Drive.units g.D.Drive.lost g.D.Drive.failures (Has l.rotten.marks.items) l.fn.drives l.drives
