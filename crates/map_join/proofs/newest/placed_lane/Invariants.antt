use Rattle.std.proofs.Common.{slice_index}
use Rattle.map_join.specs.Marks.{IsPlacedBelow}
use Rattle.map_join.proofs.newest.placed_lane.Given as goal

abbrev pub invariant-loop-lane : goal.invariant-loop-lane
invariant-loop-lane l = IsPlacedBelow l.lane (slice_index l.keys) l.slot → ⊥
