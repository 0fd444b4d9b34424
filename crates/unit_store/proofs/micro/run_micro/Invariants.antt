use Rattle.std.proofs.Common.{◌≡◌, ◌++◌, ◌≤◌, length}
use Rattle.extent_groups.specs.declared.place.Place.{Place}
use Rattle.extent_groups.specs.Calls.{FadesAt, KeepsDrives}
use Rattle.extent_groups.specs.Planned.{after}
use Rattle.unit_store.specs.Fit.{IsFit}
use Rattle.unit_store.specs.Micros.{writes_in, note_after, IsWritten, KeepsGroups}
use Rattle.unit_store.specs.Slots.{cells_in}
use Rattle.unit_store.proofs.micro.run_micro.Given as goal

abbrev pub invariant-loop-micro : goal.invariant-loop-micro
invariant-loop-micro g l = record {
  whole : l.yielded ++ l.micro-iterator.rest.items ≡ l.fn.list.items;
  rest : l.micro-iterator.rest.len ≡ length l.micro-iterator.rest.items;
  many : length l.yielded ≡ l.done;
  low : l.done ≤ l.n;
  note : l.parts.note ≡ note_after l.fn.parts.note l.yielded;
  cells : (x : Place) → FadesAt (after (cells_in g.D.Drive.units g.D.Drive.lost l.fn.parts) (writes_in l.yielded)) (cells_in g.D.Drive.units g.D.Drive.lost l.parts) x;
  touched : KeepsDrives g.D.Drive.units g.D.Drive.lost g.D.Drive.failures (IsWritten l.yielded) l.fn.parts.drives.items l.parts.drives.items;
  groups : KeepsGroups l.fn.parts l.parts;
  fit : IsFit g.D.Drive.units l.parts;
}
