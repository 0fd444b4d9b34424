use Rattle.std.proofs.Common.{◌≡◌, ◌<◌, ℕ, true, false, slice_index_or}
use Rattle.journaled_store.specs.Left.{IsOneLost}
use Rattle.journaled_store.proofs.store.are_two_lost.Given as goal

abbrev pub invariant-loop-drive : goal.invariant-loop-drive
invariant-loop-drive l = record {
  none : l.found ≡ false → (d : ℕ) → d < l.drive → slice_index_or l.lost d true ≡ false;
  one : IsOneLost l.lost l.drive;
}
