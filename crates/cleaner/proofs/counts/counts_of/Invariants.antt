use Rattle.std.proofs.Common.{◌≡◌, ℕ, ◌<◌, Some, length, slice_index}
use Rattle.extent_groups.specs.declared.class.Class.TheVariants.{Parity}
use Rattle.extent_groups.specs.Groups.{group_at, class_in}
use Rattle.cleaner.specs.Counts.{HasLive}
use Rattle.cleaner.proofs.counts.counts_of.Given as goal

abbrev pub invariant-loop-group : goal.invariant-loop-group
invariant-loop-group g l = record {
  many : length l.counts ≡ 512;
  below : (h : ℕ) → h < l.group → class_in (group_at l.groups h) ≡ Some Parity → HasLive l.groups (g.L.Live.keys l.live) h (slice_index l.counts h);
}
