use Rattle.std.proofs.Common.{ℕ, ◌/◌, ◌<◌}
use Rattle.extent_groups.specs.declared.class.Class.TheVariants.{Parity}
use Rattle.migrator.specs.Counts.{IsOtherZero}
use Rattle.migrator.specs.First.{IsFreePick}
use Rattle.migrator.proofs.first.first_fresh.Given as goal

abbrev pub invariant-loop-row : goal.invariant-loop-row
invariant-loop-row g l =
    (s : ℕ) → s / 2048 < l.row → IsFreePick Parity l.groups (IsOtherZero l.end l.counts) (λ _. Unit {0}) (g.F.Free.free l.free) s → ⊥
