use Rattle.std.proofs.Common.{ℕ, ◌<◌}
use Rattle.extent_groups.specs.Groups.{AreGroups}
use Rattle.rebalancer.specs.Carrying.{CarriesGroup}
use Rattle.rebalancer.proofs.groups.first_on.Given as goal

abbrev pub invariant-loop-group : goal.invariant-loop-group
invariant-loop-group l = (0 < l.group → AreGroups l.groups) × ((g : ℕ) → g < l.group → CarriesGroup l.groups l.drive g → ⊥)
