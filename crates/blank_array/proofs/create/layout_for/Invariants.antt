use Rattle.std.proofs.Common.{◌≡◌, ◌<◌, ℕ, length}
use Rattle.std.specs.Prelude.{get_or}
use Rattle.blank_array.proofs.create.layout_for.Given as goal

-- the first drives
abbrev pub invariant-loop-drive : goal.invariant-loop-drive
invariant-loop-drive l = record {
  long : length l.counts ≡ 16;
  each : (d : ℕ) → d < l.drive → d < l.drives → get_or l.counts d 0 ≡ l.units;
}
