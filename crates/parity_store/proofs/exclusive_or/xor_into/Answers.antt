use Rattle.std.proofs.Common.{◌≡◌, ◌+◌, ◌*◌, ◌/◌, length, refl, ◌∙◌, ap, arith, get_or, set}
use Rattle.std.specs.Prelude.{bit_xor}
use Rattle.std.specs.Simd.Lanes.{zip2, chunk, put_chunk}
use Rattle.parity_store.proofs.Mixed.{mixed_more, mixed_block, mixed_all}
use Rattle.parity_store.proofs.exclusive_or.xor_into.Goals as goal

pub loop-block-preserved : goal.loop-block-preserved
loop-block-preserved c =
    let at = 32 * c.loop-block.block in
    ap (λ t. put_chunk at t (zip2 bit_xor (chunk at 32 t) (chunk at 32 c.args.from.now))) c.loop-block.invariant
    ∙ mixed_block at (32 * (c.loop-block.block + 1)) 32 c.args.into.now c.args.from.now (omega arith) (omega (arith, c.loop-block-test.true)) c.requires

pub loop-step-init : goal.loop-step-init
loop-step-init c =
    let all : c.loop-block.block ≡ length c.args.into.now / 32 = omega (arith, c.loop-block-test.false, c.loop-block.auto.block-end) in
    let same : 8 * (4 * (length c.args.into.now / 32)) ≡ 32 * (length c.args.into.now / 32) = omega arith in
    rw same (rw all at c.loop-block.invariant)

pub loop-step-preserved : goal.loop-step-preserved
loop-step-preserved c =
    let at = 8 * c.loop-step.step in
    ap (λ t. put_chunk at t (zip2 bit_xor (chunk at 8 t) (chunk at 8 c.args.from.now))) c.loop-step.invariant
    ∙ mixed_block at (8 * (c.loop-step.step + 1)) 8 c.args.into.now c.args.from.now (omega arith) (omega (arith, c.loop-step-test.true)) c.requires

pub loop-i-preserved : goal.loop-i-preserved
loop-i-preserved c =
    ap (λ t. set t c.loop-i.i (bit_xor (get_or t c.loop-i.i 0) (get_or c.args.from.now c.loop-i.i 0))) c.loop-i.invariant
    ∙ mixed_more c.loop-i.i (c.loop-i.i + 1) c.args.into.now c.args.from.now refl (omega (arith, c.loop-i-test.true, c.loop-block.auto.into)) c.requires

pub returns : goal.returns
returns c = c.loop-i.invariant ∙ mixed_all c.loop-i.i c.args.into.now c.args.from.now (omega (arith, c.loop-i-test.false, c.loop-i.auto.i-end, c.loop-block.auto.into)) c.requires
