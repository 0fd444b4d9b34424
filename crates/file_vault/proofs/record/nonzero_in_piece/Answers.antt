use Rattle.std.proofs.Common.{◌==◌, arith, get_or}
use Rattle.file_vault.proofs.Heads.{one_if, one_most, counted_next}
use Rattle.file_vault.proofs.record.nonzero_in_piece.Goals as goal

pub loop-byte-preserved : goal.loop-byte-preserved
loop-byte-preserved c =
    let bytes = c.args.bytes.now in
    let i = c.loop-byte.byte-index in
    let b = get_or bytes i 0 in
    let few = one_most (b == 0) in
    record {
      count = counted_next bytes i c.loop-byte.count _ c.loop-byte-test.true c.loop-byte.invariant.count (one_if (b == 0));
      most = omega (arith, c.loop-byte.invariant.most, few);
    }
