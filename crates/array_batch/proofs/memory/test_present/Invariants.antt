use Rattle.std.proofs.Common.{◌≡◌, ◌<◌, ℕ, Some, false, slice_get}
use Rattle.extents.specs.Condition.{Held}
use Rattle.unit_store.specs.Memory.{held_lost}
use Rattle.array_batch.proofs.memory.test_present.Given as goal

abbrev pub invariant-loop-number : goal.invariant-loop-number
invariant-loop-number l = (d : ℕ) (m : Held) → d < l.number → slice_get l.drives d ≡ Some m → held_lost m ≡ false
