use Rattle.std.proofs.Common.{◌≡◌, length}
use Rattle.nbd_serve.proofs.Turns.{IsAsked}
use Rattle.nbd_serve.proofs.handshake.negotiate.Given as goal

-- `taken` options were answered
abbrev pub invariant-loop-taken : goal.invariant-loop-taken
invariant-loop-taken g l =
    let remaining = g.R.Read.remaining in
    let contents = g.W.Write.contents in record {
      room : length l.buffer ≡ 4096;
      asked : IsAsked l.export l.no_zeroes l.taken (remaining l.fn.reader) (remaining l.reader) (contents l.fn.writer) (contents l.writer);
    }
