use Rattle.std.proofs.Common.{◌≡◌, ◌*◌, ◌/◌, length, arith, ap}
use Rattle.std.specs.Prelude.{slice_index}
use Rattle.hex.specs.Hex.{lower_digits}
use Rattle.hex.proofs.Pairs.{encode_step, encode_done}
use Rattle.hex_lanes.proofs.Encoded.{step_encoded, turn_encoded}
use Rattle.hex_lanes.proofs.encode.encode_hex.Goals as goal

pub loop-turn-preserved : goal.loop-turn-preserved
loop-turn-preserved c =
    turn_encoded c.loop-turn.turn c.args.bytes.now c.loop-turn.out c.halves_of_both.result.0 c.halves_of_both.result.1
    c.digits_of.result c.digits_of-in-loop-turn.result (omega (arith, c.loop-turn-test.true)) (omega (arith, c.requires, c.loop-turn.auto.out))
    c.halves_of_both.ensures.first c.halves_of_both.ensures.second c.digits_of.ensures c.digits_of-in-loop-turn.ensures c.loop-turn.invariant

pub loop-step-init : goal.loop-step-init
loop-step-init c =
    let all : c.loop-turn.turn ≡ length c.args.bytes.now / 16 = omega (arith, c.loop-turn-test.false, c.loop-turn.auto.turn-end) in
    let same : 8 * (2 * (length c.args.bytes.now / 16)) ≡ 16 * (length c.args.bytes.now / 16) = omega arith in
    rw same (rw all at c.loop-turn.invariant)

pub loop-step-preserved : goal.loop-step-preserved
loop-step-preserved c =
    step_encoded c.loop-step.step c.args.bytes.now c.loop-step.out c.halves_of.result c.digits_of-digits.result
    (omega (arith, c.loop-step-test.true)) (omega (arith, c.requires, c.loop-step.auto.out))
    c.halves_of.ensures.value c.digits_of-digits.ensures c.loop-step.invariant

pub loop-at-preserved : goal.loop-at-preserved
loop-at-preserved c =
    encode_step lower_digits c.args.bytes.now c.loop-at.out c.loop-at.at _ _
    (omega (arith, c.loop-at-test.true)) (omega (arith, c.loop-at-test.true, c.requires, c.loop-step.auto.out, c.loop-at.auto.out))
    (ap (λ half. slice_index lower_digits half) c.from.ensures) (ap (λ half. slice_index lower_digits half) c.from-in-loop-at.ensures)
    c.loop-at.invariant

pub returns : goal.returns
returns c =
    encode_done lower_digits c.args.bytes.now c.loop-at.out c.loop-at.at
    (omega (arith, c.loop-at-test.false)) (omega (arith, c.requires, c.loop-step.auto.out, c.loop-at.auto.out)) c.loop-at.invariant
