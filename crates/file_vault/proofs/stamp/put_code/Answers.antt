use Rattle.std.proofs.Common.{refl, arith}
use Rattle.file_vault.proofs.Stamps.{code_next}
use Rattle.file_vault.proofs.stamp.put_code.Goals as goal

pub loop-byte-preserved : goal.loop-byte-preserved
loop-byte-preserved c = code_next c.loop-byte.out _ c.loop-byte.byte-index c.loop-byte.rest _ (omega (arith, c.loop-byte-test.true, c.loop-byte.auto.out)) refl c.loop-byte.invariant
