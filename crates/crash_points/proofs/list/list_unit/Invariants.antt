use Rattle.std.proofs.Common.{◌≡◌, ◌≤◌, ◌++◌, length}
use Rattle.std.specs.Vec.{vec_capacity}
use Rattle.crash_points.proofs.Listing.{puts_of}
use Rattle.crash_points.proofs.list.list_unit.Given as goal

abbrev pub invariant-loop-drive : goal.invariant-loop-drive
invariant-loop-drive g l = record {
  room : 4 ≤ vec_capacity l.list;
  one : length l.initial.list.items ≡ 1;
  few : length l.initial.drive-iterator.rest.items ≤ 2;
  whole : l.yielded ++ l.drive-iterator.rest.items ≡ l.initial.drive-iterator.rest.items;
  rest : l.drive-iterator.rest.len ≡ length l.drive-iterator.rest.items;
  items : l.list.items ≡ l.initial.list.items ++ puts_of l.yielded;
}
