use Rattle.std.proofs.Common.{◌<◌, length, get_or, refl, arith}
use Rattle.std.specs.Int.{IsInRange}
use Rattle.script_syntax.proofs.Fronts.{no_front, front_more, next_digit, not_cut, not_ended, number_alone, number_cut}
use Rattle.script_syntax.proofs.number.cut_any.Goals as goal
use Rattle.script_syntax.proofs.number.cut_any.Goals.{else-text-at-eq-SPACE-via-then-text-at-eq-SPACE+else-is_numeral, else-text-at-eq-SPACE-via-else-text-at-eq-SPACE}

pub loop-at-init : goal.loop-at-init
loop-at-init c = no_front 32 c.args.text.now

pub returns-then-is_numeral-clause-some : goal.returns-then-is_numeral-clause-some
returns-then-is_numeral-clause-some c =
    let inside : c.loop-at.at < length c.args.text.now = omega arith in
    number_cut 32 c.args.text.now c.loop-at.at c.loop-at.number inside c.if-text-at-eq-SPACE.true (c.if-is_numeral.ensures.0 refl)
    c.loop-at.invariant

pub returns-else-text-at-eq-SPACE-clause-none : goal.returns-else-text-at-eq-SPACE-clause-none
returns-else-text-at-eq-SPACE-clause-none c n rest short spelled =
    let inside : c.loop-at.at < length c.args.text.now = omega arith in
    elim c.else-text-at-eq-SPACE.branch [
      | else-text-at-eq-SPACE-via-then-text-at-eq-SPACE+else-is_numeral w ↦
          not_cut 32 c.args.text.now c.loop-at.at c.loop-at.number inside w.if-text-at-eq-SPACE.true c.loop-at.invariant
          (λ is. grind (arith, w.if-is_numeral.ensures.1 is, w.if-is_numeral.false)) n rest short spelled
      | else-text-at-eq-SPACE-via-else-text-at-eq-SPACE w ↦
          let next = next_digit 32 c.args.text.now c.loop-at.at c.loop-at.number inside w.if-text-at-eq-SPACE.false c.loop-at.invariant n rest short spelled in
          omega (arith, next, c.from-digit.ensures, c.if-digit-gt9.true)
    ]

pub loop-at-preserved : goal.loop-at-preserved
loop-at-preserved c =
    let inside : c.loop-at.at < length c.args.text.now = omega arith in
    let digit : IsInRange 48 57 (get_or c.args.text.now c.loop-at.at 0) =
    (omega (arith, c.from-digit.ensures, c.if-digit-gt9.false), omega (arith, c.from-digit.ensures, c.if-digit-gt9.false)) in
    front_more 32 c.args.text.now c.loop-at.at c.loop-at.number _ inside (omega arith)
    (λ space. omega (arith, space, digit)) digit (omega (arith, digit, c.from-digit.ensures)) c.loop-at.invariant

pub returns-then-is_numeral-2-clause-some : goal.returns-then-is_numeral-2-clause-some
returns-then-is_numeral-2-clause-some c =
    number_alone 32 c.args.text.now c.loop-at.at c.loop-at.number (omega arith) (omega arith)
    (c.if-is_numeral-2.ensures.0 refl) c.loop-at.invariant

pub returns-else-is_numeral-2-clause-none : goal.returns-else-is_numeral-2-clause-none
returns-else-is_numeral-2-clause-none c =
    not_ended 32 c.args.text.now c.loop-at.at c.loop-at.number (omega arith) (omega arith) c.loop-at.invariant
    (λ is. grind (arith, c.if-is_numeral-2.ensures.1 is, c.if-is_numeral-2.false))
