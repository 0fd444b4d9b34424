use Rattle.std.proofs.Common.{arith}
use Rattle.slot_tables.proofs.Seated.{expected_low}
use Rattle.slot_tables.proofs.seats.first_unclaimed.Goals as goal

pub returns : goal.returns
returns g c = λ slot b needs. c.loop-slot.invariant slot (let low = expected_low c.args.expected.now slot b needs in let over = c.loop-slot-test.false in omega (arith, low, over)) b needs
