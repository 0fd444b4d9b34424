use Rattle.std.proofs.Common.{◌≡◌, ℕ, ◌<◌, length}
use Rattle.std.specs.Prelude.{slice_index}
use Rattle.slot_tables.specs.Kept.{kepts_of}
use Rattle.slot_tables.specs.Counted.{newest_below}
use Rattle.disk_array.proofs.live.counted.Given as goal

abbrev pub invariant-loop-group : goal.invariant-loop-group
invariant-loop-group g l = record {
  many : length l.live ≡ 512;
  below : (h : ℕ) → h < l.group → slice_index l.live h ≡ newest_below (kepts_of l.places) h 128;
}
