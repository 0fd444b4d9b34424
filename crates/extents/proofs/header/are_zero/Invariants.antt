use Rattle.extents.proofs.Zeros.{IsLeft}
use Rattle.extents.proofs.header.are_zero.Given as goal

abbrev pub invariant-loop-byte : goal.invariant-loop-byte
invariant-loop-byte l = IsLeft l.bytes l.any l.byte-index
