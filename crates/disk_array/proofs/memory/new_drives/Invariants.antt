use Rattle.std.proofs.Common.{◌≡◌, ◌≤◌, ◌*◌, ◌+◌, vec_len, vec_capacity}
use Rattle.extents.specs.Sizes.{extent_units}
use Rattle.disk_array.proofs.Losings.{AreNewDrives}
use Rattle.disk_array.proofs.memory.new_drives.Given as goal

abbrev pub invariant-loop-made : goal.invariant-loop-made
invariant-loop-made l = record {
  new : AreNewDrives (32 + l.shape.payload) (l.shape.extents * extent_units l.shape.segments) l.drives.items;
  count : vec_len l.drives ≡ l._made;
  room : l.count ≤ vec_capacity l.drives;
}
