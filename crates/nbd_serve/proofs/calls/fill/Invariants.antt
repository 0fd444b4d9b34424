use Rattle.std.proofs.Common.{◌-◌, ◌≤◌, length, take, ◌≡◌}
use Rattle.std.specs.Io.KnownBytes.{Consumes}
use Rattle.nbd_serve.proofs.calls.fill.Given as goal

-- the first bytes of the buffer were read
abbrev pub invariant-loop-done : goal.invariant-loop-done
invariant-loop-done g l = let remaining = g.R.Read.remaining in record {
  inside : l.done ≤ length l.buffer;
  long : length l.buffer ≡ length l.fn.buffer;
  read : Consumes (remaining l.fn.reader) (remaining l.reader) (take l.done l.buffer);
}

abbrev pub decreases-loop-done : goal.decreases-loop-done
decreases-loop-done g l = length l.buffer - l.done
