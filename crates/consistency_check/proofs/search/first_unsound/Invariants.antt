use Rattle.std.proofs.Common.{◌*◌}
use Rattle.extent_groups.specs.Cells.{cells}
use Rattle.extent_groups.specs.Calls.{NoPlace, KeepsDrives}
use Rattle.consistency_check.specs.Sound.{AreSoundBelow}
use Rattle.consistency_check.proofs.search.first_unsound.Given as goal

abbrev pub invariant-loop-group : goal.invariant-loop-group
invariant-loop-group g l = record {
  below : AreSoundBelow l.groups (cells g.D.Drive.units g.D.Drive.lost l.drives) (128 * l.group);
  touched : KeepsDrives g.D.Drive.units g.D.Drive.lost g.D.Drive.failures NoPlace l.fn.drives l.drives;
}
