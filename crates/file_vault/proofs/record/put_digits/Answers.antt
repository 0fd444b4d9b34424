use Rattle.std.proofs.Common.{refl, arith}
use Rattle.file_vault.proofs.Heads.{digits_next}
use Rattle.file_vault.proofs.record.put_digits.Goals as goal

pub loop-digit-preserved : goal.loop-digit-preserved
loop-digit-preserved c = digits_next c.loop-digit.out _ c.loop-digit.digit-index c.loop-digit.rest _ (omega (arith, c.loop-digit-test.true, c.loop-digit.auto.out)) refl c.loop-digit.invariant
