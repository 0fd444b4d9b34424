use Rattle.std.proofs.Common.{◌≡◌, ◌≤◌, take, length}
use Rattle.vault.specs.Images.{Image}
use Rattle.vault.specs.Replay.{seen_at, HasBatchAt}
use Rattle.vault.proofs.memory.find_batch.Given as goal

abbrev pub invariant-loop-call : goal.invariant-loop-call
invariant-loop-call l = record {
  count : l.count ≡ length (Image.journal (seen_at (take l.call-index l.fn.calls)));
  within : l.count ≤ l.call-index;
  found : HasBatchAt l.fn.index (seen_at (take l.call-index l.fn.calls)) l.found;
}
