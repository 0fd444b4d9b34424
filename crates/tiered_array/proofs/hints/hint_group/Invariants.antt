use Rattle.std.proofs.Common.{ℕ, ◌+◌, ◌*◌, ◌<◌}
use Rattle.tiered_array.specs.Hints.{IsHinted}
use Rattle.tiered_array.proofs.hints.hint_group.Given as goal

abbrev pub invariant-loop-index : goal.invariant-loop-index
invariant-loop-index l =
    ((k : ℕ) → k < l.index → IsHinted l.hints (128 * l.group + k)) × ((other : ℕ) → IsHinted l.fn.hints other → IsHinted l.hints other)
