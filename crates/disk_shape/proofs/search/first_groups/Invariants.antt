use Rattle.std.proofs.Common.{ℕ, ◌<◌, ◌≤◌}
use Rattle.disk_shape.specs.Plans.{slots_of}
use Rattle.disk_shape.proofs.search.first_groups.Given as goal

-- fewer groups are too few
abbrev pub invariant-loop-groups : goal.invariant-loop-groups
invariant-loop-groups l = (g : ℕ) → 2 ≤ g → g < l.groups → slots_of l.members l.segments g ≤ l.blocks
