use Rattle.std.proofs.Common.{ℕ, ◌<◌, ◌≤◌}
use Rattle.disk_shape.specs.Plans.{slots_of}
use Rattle.disk_shape.proofs.search.first_segments.Given as goal

-- fewer segments are too few
abbrev pub invariant-loop-segments : goal.invariant-loop-segments
invariant-loop-segments l = (s : ℕ) → 1 ≤ s → s < l.segments → slots_of l.members s 512 ≤ l.blocks
