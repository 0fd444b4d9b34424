use Rattle.std.proofs.Common.{length}
use Rattle.nbd_serve.proofs.Streaming.{IsWritten}
use Rattle.nbd_serve.proofs.calls.write_out.Given as goal

-- the bytes so far were taken
abbrev pub invariant-loop-rest : goal.invariant-loop-rest
invariant-loop-rest g l = let contents = g.W.Write.contents in IsWritten (contents l.fn.writer) (contents l.writer) l.fn.bytes l.rest

abbrev pub decreases-loop-rest : goal.decreases-loop-rest
decreases-loop-rest g l = length l.rest
