use Rattle.std.proofs.Common.{◌≡◌, ◌<◌, ℕ, length}
use Rattle.std.specs.Prelude.{◌||◌}
use Rattle.vault.specs.Images.{is_lost}
use Rattle.array_recovery.specs.Found.{is_marked}
use Rattle.array_recovery.proofs.marks.lost_drives.Given as goal

-- the first drives
abbrev pub invariant-loop-drive : goal.invariant-loop-drive
invariant-loop-drive l = record {
  long : length l.lost ≡ 16;
  each : (d : ℕ) → d < l.drive → is_lost l.lost d ≡ (is_marked l.marks d || is_lost l.absent d);
}
