use Rattle.std.proofs.Common.{ℕ, ◌/◌, ◌<◌}
use Rattle.tiered_array.specs.Hints.{IsHinted, AreHints, IsSought}
use Rattle.tiered_array.proofs.hints.first_of_all.Given as goal

abbrev pub invariant-loop-word : goal.invariant-loop-word
invariant-loop-word g l =
    IsSought l.fn.slots l.slots (g.F.Free.free l.free) × AreHints l.slots l.rows × ((s : ℕ) → s / 64 / 64 < l.word → IsHinted l.slots s → ⊥)
