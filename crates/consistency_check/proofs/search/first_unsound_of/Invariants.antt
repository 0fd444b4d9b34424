use Rattle.std.proofs.Common.{◌+◌, ◌*◌}
use Rattle.extent_groups.specs.Cells.{cells}
use Rattle.extent_groups.specs.Calls.{NoPlace, KeepsDrives}
use Rattle.consistency_check.specs.Sound.{AreSoundBelow}
use Rattle.consistency_check.proofs.search.first_unsound_of.Given as goal

abbrev pub invariant-loop-index : goal.invariant-loop-index
invariant-loop-index g l = record {
  below : AreSoundBelow l.groups (cells g.D.Drive.units g.D.Drive.lost l.fn.drives) (128 * l.group) → AreSoundBelow l.groups (cells g.D.Drive.units g.D.Drive.lost l.drives) (128 * l.group + l.index);
  touched : KeepsDrives g.D.Drive.units g.D.Drive.lost g.D.Drive.failures NoPlace l.fn.drives l.drives;
}
