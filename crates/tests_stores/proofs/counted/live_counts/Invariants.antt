use Rattle.std.proofs.Common.{◌≡◌, ℕ, ◌<◌, Some, length, slice_index}
use Rattle.std.specs.Prelude.{◌↔◌}
use Rattle.extent_groups.specs.declared.class.Class.TheVariants.{Parity}
use Rattle.extent_groups.specs.Groups.{group_at, class_in}
use Rattle.map_join.specs.Maps.{at}
use Rattle.migrator.specs.Slots.{IsDeadGroup}
use Rattle.tests_stores.proofs.counted.live_counts.Given as goal

abbrev pub invariant-loop-group : goal.invariant-loop-group
invariant-loop-group l = record {
  many : length l.counts ≡ 512;
  below : (g : ℕ) → g < l.group → class_in (group_at l.groups g) ≡ Some Parity → (slice_index l.counts g ≡ 0) ↔ IsDeadGroup l.groups (at l.map) g;
}
