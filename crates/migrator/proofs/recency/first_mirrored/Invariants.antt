use Rattle.std.proofs.Common.{ℕ, ◌<◌, get_or}
use Rattle.migrator.specs.Slots.{IsMirrored}
use Rattle.migrator.proofs.recency.first_mirrored.Given as goal

abbrev pub invariant-loop-turn : goal.invariant-loop-turn
invariant-loop-turn g l =
    (k : ℕ) → k < l.turn → get_or l.turns.kept k 0 < l.turns.blocks → IsMirrored l.groups (g.N.Newest.keys l.newest) (get_or l.turns.kept k 0) → ⊥
