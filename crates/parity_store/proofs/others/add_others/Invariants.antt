use Rattle.std.proofs.Common.{◌≡◌, Some, length}
use Rattle.extent_groups.specs.declared.place.Place.{Place}
use Rattle.extent_groups.specs.Cells.{cells, front_units, held}
use Rattle.extent_groups.specs.Units.{add, xor_total, row_of}
use Rattle.extent_groups.specs.Calls.{NoPlace, SameBut, KeepsDrives}
use Rattle.extent_groups.specs.Stores.{HasMemberOn}
use Rattle.parity_store.specs.Ways.{bare, row_at}
use Rattle.parity_store.proofs.others.add_others.Given as goal

abbrev pub invariant-loop-number : goal.invariant-loop-number
invariant-loop-number g l = record {
  same : (x : Place) → held (cells (front_units (length l.fn.sum) g.D.Drive.units) g.D.Drive.lost l.drives) x ≡ held (cells (front_units (length l.fn.sum) g.D.Drive.units) g.D.Drive.lost l.fn.drives) x;
  sum : add (Some l.fn.sum) (xor_total (length l.fn.sum) l.number (bare (length l.fn.sum) (row_of (cells (front_units (length l.fn.sum) g.D.Drive.units) g.D.Drive.lost l.fn.drives) (row_at l.groups l.others.group l.others.offset)) l.others.first l.others.second)) ≡ Some l.sum;
  touched : KeepsDrives g.D.Drive.units g.D.Drive.lost g.D.Drive.failures NoPlace l.fn.drives l.drives;
  elsewhere : SameBut (HasMemberOn l.groups l.others.group) l.fn.drives l.drives;
}
