use Rattle.std.proofs.Common.{◌≡◌, ℕ, ◌<◌, length, get_or, true}
use Rattle.unit_store.specs.Views.{lost_of}
use Rattle.disk_array.proofs.array.Array.lost.Given as goal

abbrev pub invariant-loop-drive : goal.invariant-loop-drive
invariant-loop-drive g l = record {
  many : length l.lost ≡ 16;
  before : (drive : ℕ) → drive < l.drive → get_or l.lost drive true ≡ lost_of l.self.parts drive;
}
