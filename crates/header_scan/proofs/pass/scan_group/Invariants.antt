use Rattle.std.proofs.Common.{◌≡◌, ℕ, ◌+◌, ◌*◌, ◌≤◌, length}
use Rattle.map_join.specs.Maps.{at}
use Rattle.extent_groups.specs.Cells.{Cells}
use Rattle.header_scan.specs.Found.{key_in, IsUnderway, ArePlaced}
use Rattle.header_scan.proofs.pass.scan_group.Given as goal

abbrev pub invariant-loop-index : goal.invariant-loop-index
invariant-loop-index g l = record {
  ok : (low : ℕ) (start : Cells) → low ≤ 128 * l.group
      → IsUnderway (g.U.Units.groups l.fn.units) start (g.U.Units.cells l.fn.units) low (128 * l.group) (key_in l.fn.found.newest) (at l.fn.found.twins)
      → IsUnderway (g.U.Units.groups l.fn.units) start (g.U.Units.cells l.fn.units) low (128 * l.group + l.index) (key_in l.found.newest) (at l.found.twins);
  inside : ArePlaced (g.U.Units.groups l.fn.units) (128 * l.group) (key_in l.fn.found.newest) → ArePlaced (g.U.Units.groups l.fn.units) (128 * l.group + l.index) (key_in l.found.newest);
  many : length l.found.newest ≡ l.blocks;
}
