use Rattle.std.proofs.Common.{◌≡◌, ◌<◌, length, get_or, refl, arith}
use Rattle.std.specs.Int.{IsInRange}
use Rattle.script_syntax.proofs.Fronts.{no_front, front_more, front_number}
use Rattle.script_syntax.proofs.number.front_number.Goals as goal

pub loop-at-init : goal.loop-at-init
loop-at-init c = no_front 32 c.args.text.now

pub loop-at-preserved : goal.loop-at-preserved
loop-at-preserved c =
    let inside : c.loop-at.at < length c.args.text.now = omega arith in
    let digit : IsInRange 48 57 (get_or c.args.text.now c.loop-at.at 0) =
    (omega (arith, c.from-digit.ensures, c.if-digit-gt9.false), omega (arith, c.from-digit.ensures, c.if-digit-gt9.false)) in
    front_more 32 c.args.text.now c.loop-at.at c.loop-at.number _ inside (omega arith)
    (λ space. omega (arith, space, digit)) digit (omega (arith, digit, c.from-digit.ensures)) c.loop-at.invariant

pub returns-then-is_numeral : goal.returns-then-is_numeral
returns-then-is_numeral c =
    let end : c.loop-at.at ≡ c.args.count = omega arith in
    front_number 32 c.args.text.now c.args.count c.loop-at.number c.requires.inside (c.if-is_numeral.ensures.0 refl)
    (rw end at c.loop-at.invariant)
