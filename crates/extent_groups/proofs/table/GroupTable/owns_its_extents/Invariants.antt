use Rattle.std.proofs.Common.{ℕ, ◌<◌}
use Rattle.extent_groups.specs.Groups.{members_of, AreOwned}
use Rattle.extent_groups.proofs.table.GroupTable.owns_its_extents.Given as goal

abbrev pub invariant-loop-group : goal.invariant-loop-group
invariant-loop-group l = (g : ℕ) → g < l.group → AreOwned l.extents (members_of l.self g) g
