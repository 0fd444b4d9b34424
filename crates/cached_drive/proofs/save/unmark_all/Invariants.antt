use Rattle.std.proofs.Common.{ℕ, take}
use Rattle.std.specs.Prelude.{Contains}
use Rattle.cached_drive.specs.Saving.{IsMarked}
use Rattle.cached_drive.proofs.save.unmark_all.Given as goal

abbrev pub invariant-loop-at : goal.invariant-loop-at
invariant-loop-at l = (a : ℕ) → IsMarked l.marks.items a → Contains l.dirty a × (Contains (take l.at-index l.dirty) a → ⊥)
