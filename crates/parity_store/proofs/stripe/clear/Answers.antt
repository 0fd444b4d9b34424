use Rattle.std.proofs.Common.{length, arith}
use Rattle.parity_store.proofs.Sums.{all_zero}
use Rattle.parity_store.proofs.stripe.clear.Goals as goal

pub returns : goal.returns
returns c = all_zero (length c.args.unit.now) c.loop-byte.unit c.loop-byte.auto.unit (λ k low. c.loop-byte.invariant k (omega arith))
