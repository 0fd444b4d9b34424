use Rattle.extent_groups.specs.Calls.{NoPlace, KeepsDrives}
use Rattle.extent_groups.proofs.place.sync_drives.Given as goal

abbrev pub invariant-loop-number : goal.invariant-loop-number
invariant-loop-number g l = record {
  touched : KeepsDrives g.D.Drive.units g.D.Drive.lost g.D.Drive.failures NoPlace l.fn.drives l.drives;
}
