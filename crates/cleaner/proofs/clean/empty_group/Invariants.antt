use Rattle.std.proofs.Common.{ℕ, ◌<◌}
use Rattle.cleaner.specs.Plans.{IsReclaimable}
use Rattle.cleaner.proofs.clean.empty_group.Given as goal

abbrev pub invariant-loop-group : goal.invariant-loop-group
invariant-loop-group g l = (k : ℕ) → k < l.group → IsReclaimable l.groups (g.L.Live.keys l.live) l.write k → ⊥
