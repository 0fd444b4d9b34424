use Rattle.std.proofs.Common.{arith}
use Rattle.tests_book.proofs.rig.parted.Goals as goal

pub returns-clause-hired : goal.returns-clause-hired
returns-clause-hired g c =
    let first = c.loop.auto.counter in
    let last = c.loop.auto.counter-end in
    let ended = c.loop-test.false in
    let each = c.loop.invariant.1 in
    let most = c.loop.invariant.2 in
    omega (arith, first, last, ended, each, most)
