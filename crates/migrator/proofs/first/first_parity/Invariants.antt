use Rattle.std.proofs.Common.{ℕ, ◌/◌, ◌<◌}
use Rattle.migrator.specs.First.{IsFreeParity}
use Rattle.migrator.proofs.first.first_parity.Given as goal

abbrev pub invariant-loop-row : goal.invariant-loop-row
invariant-loop-row g l = (s : ℕ) → s / 2048 < l.row → IsFreeParity l.groups (g.F.Free.free l.free) s → ⊥
