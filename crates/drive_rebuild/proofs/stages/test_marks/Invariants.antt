use Rattle.std.proofs.Common.{◌≡◌, ◌≢◌, ◌<◌, ℕ, false}
use Rattle.array_recovery.specs.Found.{is_marked}
use Rattle.drive_rebuild.proofs.stages.test_marks.Given as goal

abbrev pub invariant-loop-drive : goal.invariant-loop-drive
invariant-loop-drive l = record {
  others : (d : ℕ) → d < l.drive → d ≢ l.number → is_marked l.marks d ≡ false;
}
