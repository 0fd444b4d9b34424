use Rattle.std.proofs.Common.{◌≡◌, ℕ, ◌/◌, ◌<◌}
use Rattle.migrator.specs.First.{IsFreePick}
use Rattle.migrator.proofs.first.first_in_row.Given as goal

abbrev pub invariant-loop-group : goal.invariant-loop-group
invariant-loop-group g l =
    (s : ℕ) → s / 128 < l.group → (s / 2048 ≡ l.row)
    × IsFreePick l.class l.groups (g.P.Picks.group_is l.which) (g.P.Picks.slot_is l.which) (g.F.Free.free l.free) s → ⊥
