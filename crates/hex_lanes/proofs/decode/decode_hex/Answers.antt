use Rattle.std.proofs.Common.{◌≡◌, ◌+◌, ◌*◌, ◌/◌, ◌≤◌, length, arith, ◌∙◌}
use Rattle.std.proofs.lemmas.Simd.{Each1-chunk}
use Rattle.std.specs.Simd.Lanes.{Each1}
use Rattle.hex_lanes.proofs.Lanes.{IsHalf}
use Rattle.hex_lanes.proofs.Spelled.{IsDigit}
use Rattle.hex_lanes.proofs.Done.{IsAhead, none_ahead, step_done, turn_done, refused, rest_done}
use Rattle.hex_lanes.proofs.decode.decode_hex.Goals as goal

pub loop-turn-init : goal.loop-turn-init
loop-turn-init c = none_ahead c.args.digits.now c.args.out.now

pub loop-turn-preserved : goal.loop-turn-preserved
loop-turn-preserved c =
    let at = 2 * (32 * c.loop-turn.turn) in
    let fits : 32 * c.loop-turn.turn + 32 ≤ length c.loop-turn.out = omega (arith, c.loop-turn-test.true, c.loop-turn.auto.out) in
    let twice : length c.args.digits.now ≡ 2 * length c.loop-turn.out = omega (arith, c.if-digits-ne0.false, c.if-digits-out.false, c.loop-turn.auto.out) in
    let all : IsAhead (32 * (c.loop-turn.turn + 1)) c.greatest_of-greatest.result c.args.digits.now _ = record {
      done = λ halves.
          let both = c.greatest_of-greatest.ensures.0 halves in
          let four = c.greatest_of-here.ensures.0 both.1 in
          let front = c.greatest_of.ensures.0 four.0 in
          let back = c.greatest_of-in-loop-turn.ensures.0 four.1 in
          turn_done c.loop-turn.turn c.args.digits.now c.loop-turn.out c.values_of-first.result c.values_of-second.result
          c.values_of-third.result c.values_of-fourth.result c.join_both.result c.join_both-in-loop-turn.result fits twice
          (record { are = c.values_of-first.ensures.values front.0; halves = front.0 })
          (record { are = c.values_of-second.ensures.values front.1; halves = front.1 })
          (record { are = c.values_of-third.ensures.values back.0; halves = back.0 })
          (record { are = c.values_of-fourth.ensures.values back.1; halves = back.1 })
          (c.join_both.ensures front.0 front.1) (c.join_both-in-loop-turn.ensures back.0 back.1) (c.loop-turn.invariant.done both.0);
      seen = λ are. c.greatest_of-greatest.ensures.1 (
        c.loop-turn.invariant.seen are,
        c.greatest_of-here.ensures.1 (
          c.greatest_of.ensures.1 (
            c.values_of-first.ensures.digits.0 (Each1-chunk IsDigit at 16 c.args.digits.now are),
            c.values_of-second.ensures.digits.0 (Each1-chunk IsDigit (at + 16) 16 c.args.digits.now are),
          ),
          c.greatest_of-in-loop-turn.ensures.1 (
            c.values_of-third.ensures.digits.0 (Each1-chunk IsDigit (at + 32) 16 c.args.digits.now are),
            c.values_of-fourth.ensures.digits.0 (Each1-chunk IsDigit (at + 48) 16 c.args.digits.now are),
          ),
        ),
      );
    } in
    all

pub loop-step-init : goal.loop-step-init
loop-step-init c =
    let all : c.loop-turn.turn ≡ length c.args.out.now / 32 = omega (arith, c.loop-turn-test.false, c.loop-turn.auto.turn-end) in
    let same : 8 * (4 * (length c.args.out.now / 32)) ≡ 32 * (length c.args.out.now / 32) = omega arith in
    rw same (rw all at (c.loop-turn.invariant.done (c.are_halves.ensures.0 c.if-not-are_halves.false)))

pub returns-then-not-are_halves : goal.returns-then-not-are_halves
returns-then-not-are_halves c =
    refused c.args.digits.now c.loop-turn.out (length c.args.out.now) (λ are.
    cc (c.are_halves.ensures.1 (c.loop-turn.invariant.seen are), c.if-not-are_halves.true))

pub returns-then-not-are_halves-2 : goal.returns-then-not-are_halves-2
returns-then-not-are_halves-2 c =
    refused c.args.digits.now c.loop-step.out (length c.args.out.now) (λ are.
    let halves : Each1 IsHalf c.values_of-values.result =
    c.values_of-values.ensures.digits.0 (Each1-chunk IsDigit (2 * (8 * c.loop-step.step)) 16 c.args.digits.now are) in
    cc (c.are_halves-in-loop-step.ensures.1 halves, c.if-not-are_halves-2.true))

pub loop-step-preserved : goal.loop-step-preserved
loop-step-preserved c =
    let halves = c.are_halves-in-loop-step.ensures.0 c.if-not-are_halves-2.false in
    step_done c.loop-step.step c.args.digits.now c.loop-step.out c.values_of-values.result c.join.result
    (omega (arith, c.loop-step-test.true, c.loop-step.auto.out, c.loop-turn.auto.out)) (omega (arith, c.if-digits-ne0.false, c.if-digits-out.false, c.loop-step.auto.out, c.loop-turn.auto.out))
    (c.values_of-values.ensures.values halves) halves c.join.ensures c.loop-step.invariant

pub returns : goal.returns
returns c =
    let all : c.loop-step.step ≡ length c.args.out.now / 8 = omega (arith, c.loop-step-test.false, c.loop-step.auto.step-end) in
    rest_done (8 * (length c.args.out.now / 8)) (length c.args.out.now) c.args.digits.now c.loop-step.out c.decode_to_slice.new.out c.decode_to_slice.result
    c.is_ok.result (omega arith) (c.loop-step.auto.out ∙ c.loop-turn.auto.out) (omega (arith, c.if-digits-ne0.false, c.if-digits-out.false)) c.is_ok.ensures.value
    c.decode_to_slice.ensures.value (rw all at c.loop-step.invariant)
