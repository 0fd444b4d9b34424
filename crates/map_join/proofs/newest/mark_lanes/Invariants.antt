use Rattle.std.proofs.Common.{ℕ, ◌+◌, ◌*◌, ◌<◌, ◌↔◌, ◌⊎◌, slice_index}
use Rattle.map_join.specs.Marks.{IsPlacedBelow, IsSet}
use Rattle.map_join.proofs.newest.mark_lanes.Given as goal

abbrev pub invariant-loop-lane : goal.invariant-loop-lane
invariant-loop-lane l =
    (index : ℕ) → index < 128 → IsSet l.marks index ↔ (IsSet l.initial.marks index ⊎ IsPlacedBelow l.lane (slice_index l.keys) (128 * l.group + index))
