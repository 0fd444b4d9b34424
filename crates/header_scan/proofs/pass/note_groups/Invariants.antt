use Rattle.std.proofs.Common.{◌≡◌, ◌*◌, length}
use Rattle.map_join.specs.Maps.{at}
use Rattle.extent_groups.specs.Stores.{AreSound}
use Rattle.header_scan.specs.Found.{key_in, IsUnderway, ArePlaced, WasOnlyRead}
use Rattle.header_scan.proofs.pass.note_groups.Given as goal

abbrev pub invariant-loop-group : goal.invariant-loop-group
invariant-loop-group g l = record {
  ok : AreSound (g.U.Units.groups l.fn.units) (g.U.Units.cells l.fn.units)
      → IsUnderway (g.U.Units.groups l.fn.units) (g.U.Units.cells l.fn.units) (g.U.Units.cells l.units) (128 * l.first) (128 * l.group) (key_in l.found.newest) (at l.found.twins);
  inside : ArePlaced (g.U.Units.groups l.fn.units) (128 * l.group) (key_in l.found.newest);
  left : WasOnlyRead g.U.Units.groups g.U.Units.cells g.U.Units.fits g.U.Units.leaves l.fn.units l.units;
  many : length l.found.newest ≡ l.blocks;
}
