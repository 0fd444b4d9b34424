use Rattle.std.proofs.Common.{ℕ, ◌<◌, ◌≡◌, Some, slice_get}
use Rattle.raid_images.proofs.choice.owner_of.Given as goal

abbrev pub invariant-loop-drive : goal.invariant-loop-drive
invariant-loop-drive l = (k : ℕ) → k < l.drive → slice_get l.sums k ≡ Some (Some l.sum) → ⊥
