use Rattle.std.proofs.Common.{◌≡◌, ◌++◌, length}
use Rattle.cached_drive.specs.Saving.{writes_at, upto}
use Rattle.cached_drive.proofs.save.put_all.Given as goal

abbrev pub invariant-loop-at : goal.invariant-loop-at
invariant-loop-at l = record {
  same : l.cache ≡ l.fn.cache;
  size : length l.unit ≡ length l.fn.unit;
  put : l.batch ≡ l.fn.batch ++ writes_at l.drive l.fn.cache.units (upto l.at);
}
