use Rattle.std.proofs.Common.{arith}
use Rattle.vault.proofs.Held.{unit_below}
use Rattle.vault.proofs.batch.find_unit.Goals as goal

pub returns-clause-none : goal.returns-clause-none
returns-clause-none c index low is =
    let below = unit_below c.args.units.now c.args.entries.now index c.args.unit.now is in
    let end = c.loop-index-test.false in
    c.loop-index.invariant index (omega (arith, low)) (omega (arith, below, end)) is
