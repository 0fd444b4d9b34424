use Rattle.std.proofs.Common.{ℕ, ◌+◌, ◌*◌, ◌<◌}
use Rattle.migrator.specs.First.{IsFreePick}
use Rattle.migrator.proofs.first.first_in.Given as goal

abbrev pub invariant-loop-index : goal.invariant-loop-index
invariant-loop-index g l =
    (k : ℕ) → k < l.index
    → IsFreePick l.fn.class l.groups (g.P.Picks.group_is l.which) (g.P.Picks.slot_is l.which) (g.F.Free.free l.free) (128 * l.group + k) → ⊥
