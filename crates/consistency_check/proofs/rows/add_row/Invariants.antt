use Rattle.std.proofs.Common.{◌≡◌, Some, length}
use Rattle.extent_groups.specs.Cells.{cells}
use Rattle.extent_groups.specs.Units.{xor_total, row_of}
use Rattle.extent_groups.specs.Calls.{NoPlace, KeepsDrives}
use Rattle.parity_store.specs.Ways.{row_at}
use Rattle.consistency_check.proofs.rows.add_row.Given as goal

abbrev pub invariant-loop-number : goal.invariant-loop-number
invariant-loop-number g l = record {
  sum : xor_total (length l.fn.sum) l.number (row_of (cells g.D.Drive.units g.D.Drive.lost l.drives) (row_at l.groups l.group l.offset)) ≡ Some l.sum;
  touched : KeepsDrives g.D.Drive.units g.D.Drive.lost g.D.Drive.failures NoPlace l.fn.drives l.drives;
}
