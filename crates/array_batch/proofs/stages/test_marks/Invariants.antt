use Rattle.std.proofs.Common.{◌≡◌, ◌<◌, ℕ, Some, slice_get}
use Rattle.array_batch.proofs.stages.test_marks.Given as goal

abbrev pub invariant-loop-drive : goal.invariant-loop-drive
invariant-loop-drive l = (d : ℕ) → d < l.drive → slice_get l.marks d ≡ Some 0
