use Rattle.std.proofs.Common.{◌≡◌, ◌≢◌, ◌<◌, ℕ, Some, slice_get}
use Rattle.extent_groups.specs.declared.class.Member.{Member}
use Rattle.drive_evacuation.proofs.evacuation.test_members.Given as goal

abbrev pub invariant-loop-index : goal.invariant-loop-index
invariant-loop-index l = (k : ℕ) (m : Member) → k < l.index → slice_get l.members k ≡ Some m → m.drive ≢ l.drive
