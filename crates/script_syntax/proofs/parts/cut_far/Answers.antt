use Rattle.std.proofs.Common.{arith}
use Rattle.script_syntax.proofs.Splits.{uncut, cut_at, there}
use Rattle.script_syntax.proofs.parts.cut_far.Goals as goal

pub returns-then-text-at : goal.returns-then-text-at
returns-then-text-at c =
    cut_at c.args.separator c.args.text.now c.loop-at.at c.loop-at-test.true c.loop-at.invariant
    (there c.args.separator c.args.text.now c.loop-at.at c.if-text-at.true)

pub returns : goal.returns
returns c = uncut c.args.separator c.args.text.now (λ k low high. c.loop-at.invariant k low (omega (arith, high, c.loop-at-test.false)))
