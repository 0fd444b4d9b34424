use Rattle.std.proofs.Common.{◌≡◌, ◌-◌, ◌≤◌, length}
use Rattle.nbd_serve.specs.Streams.{Skips}
use Rattle.nbd_serve.proofs.calls.skip.Given as goal

-- `done` bytes were read
abbrev pub invariant-loop-done : goal.invariant-loop-done
invariant-loop-done g l = let remaining = g.R.Read.remaining in record {
  scratch : length l.scratch ≡ 4096;
  inside : l.done ≤ l.count;
  read : Skips (remaining l.fn.reader) (remaining l.reader) l.done;
}

abbrev pub decreases-loop-done : goal.decreases-loop-done
decreases-loop-done g l = l.count - l.done
