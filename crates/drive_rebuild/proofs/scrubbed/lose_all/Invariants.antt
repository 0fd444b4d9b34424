use Rattle.std.proofs.Common.{◌≡◌, ◌<◌, ◌≤◌, ℕ, Bool, true, false, Some, length, slice_get}
use Rattle.extents.specs.Condition.{Held}
use Rattle.unit_store.specs.Memory.{held_lost}
use Rattle.vault.specs.Images.{is_lost}
use Rattle.drive_rebuild.proofs.scrubbed.lose_all.Given as goal

-- the first drives
abbrev pub invariant-loop-drive : goal.invariant-loop-drive
invariant-loop-drive l = record {
  many : length l.caches ≡ length l.fn.caches;
  kept : (d : ℕ) → is_lost l.lost d ≡ false → slice_get l.caches d ≡ slice_get l.fn.caches d;
  gone : (d : ℕ) (m : Held) → d < l.drive → slice_get l.caches d ≡ Some m → is_lost l.lost d ≡ true → held_lost m ≡ true;
}
