use Rattle.std.proofs.Common.{◌≡◌, ◌+◌, ◌*◌, length}
use Rattle.extent_groups.specs.Cursors.{IsMirroredAt}
use Rattle.extent_groups.proofs.GroupReads.{Reads}
use Rattle.mirrored_store.proofs.read_headers.Given as goal

abbrev pub invariant-loop-index : goal.invariant-loop-index
invariant-loop-index g l = record {
  reads : Reads g.D.Drive.units g.D.Drive.lost g.D.Drive.failures l.groups l.group l.fn.drives l.drives l.index l.headers;
  slot : l.at.slot ≡ 128 * l.group + l.index;
  copies : IsMirroredAt (length l.members) l.at;
}
