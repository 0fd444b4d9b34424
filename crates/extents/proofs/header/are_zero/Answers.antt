use Rattle.std.proofs.Common.{refl}
use Rattle.extents.proofs.Zeros.{one_more, are_all}
use Rattle.extents.proofs.header.are_zero.Goals as goal

pub loop-byte-preserved : goal.loop-byte-preserved
loop-byte-preserved c = one_more c.args.bytes.now c.loop-byte.any c.loop-byte.byte-index _ c.loop-byte-test.true refl c.loop-byte.invariant

pub returns : goal.returns
returns c = are_all c.args.bytes.now c.loop-byte.any c.loop-byte.byte-index _ c.loop-byte-test.false c.loop-byte.invariant refl
