use Rattle.std.proofs.Common.{ℕ, ◌<◌, get_or}
use Rattle.migrator.specs.Ages.{IsMarked}
use Rattle.migrator.proofs.marked_ages.picked_from.Given as goal

abbrev pub invariant-loop-turn : goal.invariant-loop-turn
invariant-loop-turn g l =
    (k : ℕ) → k < l.turn → get_or l.turns.kept k 0 < l.turns.blocks
    → IsMarked l.marks (get_or l.turns.kept k 0) × g.P.PicksBlocks.picked l.picks (get_or l.turns.kept k 0) → ⊥
