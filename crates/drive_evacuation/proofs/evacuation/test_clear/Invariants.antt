use Rattle.std.proofs.Common.{◌<◌, ℕ}
use Rattle.extent_groups.specs.Stores.{HasMemberOn}
use Rattle.drive_evacuation.proofs.evacuation.test_clear.Given as goal

abbrev pub invariant-loop-group : goal.invariant-loop-group
invariant-loop-group l = (g : ℕ) → g < l.group → HasMemberOn l.groups g l.drive → ⊥
