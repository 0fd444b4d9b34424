use Rattle.std.proofs.Common.{◌≡◌, ◌+◌, ◌*◌, ◌/◌, ℕ, List, length, refl, sym, ◌∙◌, ap, arith, get_or, set}
use Rattle.std.specs.Prelude.{bit_xor}
use Rattle.std.specs.Simd.Lanes.{zip2, chunk, put_chunk}
use Rattle.std.proofs.lemmas.Simd.{length-zip2, get_or-zip2}
use Rattle.extent_groups.specs.Units.{plus}
use Rattle.extent_groups.proofs.ExclusiveOr.{plus-assoc}
use Rattle.parity_store.proofs.Mixed.{mixed_more, mixed_block, mixed_all, chunk_plus}
use Rattle.parity_store.proofs.exclusive_or.xor_both_into.Goals as goal

-- the exclusive or of two lists of one length has that length
long : (into one other : List ℕ) → length into ≡ length one → length into ≡ length other → length into ≡ length (plus one other)
long into one other first second = first ∙ sym (length-zip2 bit_xor one other (sym first ∙ second))

pub loop-block-preserved : goal.loop-block-preserved
loop-block-preserved c =
    let at = 32 * c.loop-block.block in
    let both = plus c.args.one.now c.args.other.now in
    ap (λ s. put_chunk at c.loop-block.into (zip2 bit_xor (chunk at 32 c.loop-block.into) s)) (chunk_plus at 32 c.args.one.now c.args.other.now (sym c.requires.one ∙ c.requires.other))
    ∙ ap (λ t. put_chunk at t (zip2 bit_xor (chunk at 32 t) (chunk at 32 both))) c.loop-block.invariant
    ∙ mixed_block at (32 * (c.loop-block.block + 1)) 32 c.args.into.now both (omega arith) (omega (arith, c.loop-block-test.true))
    (long c.args.into.now c.args.one.now c.args.other.now c.requires.one c.requires.other)

pub loop-step-init : goal.loop-step-init
loop-step-init c =
    let all : c.loop-block.block ≡ length c.args.into.now / 32 = omega (arith, c.loop-block-test.false, c.loop-block.auto.block-end) in
    let same : 8 * (4 * (length c.args.into.now / 32)) ≡ 32 * (length c.args.into.now / 32) = omega arith in
    rw same (rw all at c.loop-block.invariant)

pub loop-step-preserved : goal.loop-step-preserved
loop-step-preserved c =
    let at = 8 * c.loop-step.step in
    let both = plus c.args.one.now c.args.other.now in
    ap (λ s. put_chunk at c.loop-step.into (zip2 bit_xor (chunk at 8 c.loop-step.into) s)) (chunk_plus at 8 c.args.one.now c.args.other.now (sym c.requires.one ∙ c.requires.other))
    ∙ ap (λ t. put_chunk at t (zip2 bit_xor (chunk at 8 t) (chunk at 8 both))) c.loop-step.invariant
    ∙ mixed_block at (8 * (c.loop-step.step + 1)) 8 c.args.into.now both (omega arith) (omega (arith, c.loop-step-test.true))
    (long c.args.into.now c.args.one.now c.args.other.now c.requires.one c.requires.other)

pub loop-i-preserved : goal.loop-i-preserved
loop-i-preserved c =
    let both = plus c.args.one.now c.args.other.now in
    ap (λ b. set c.loop-i.into c.loop-i.i (bit_xor (get_or c.loop-i.into c.loop-i.i 0) b))
    (sym (get_or-zip2 bit_xor c.args.one.now c.args.other.now c.loop-i.i 0 0 0 (omega (arith, c.loop-i-test.true, c.requires.one, c.loop-block.auto.into)) (omega (arith, c.loop-i-test.true, c.requires.other, c.loop-block.auto.into))))
    ∙ ap (λ t. set t c.loop-i.i (bit_xor (get_or t c.loop-i.i 0) (get_or both c.loop-i.i 0))) c.loop-i.invariant
    ∙ mixed_more c.loop-i.i (c.loop-i.i + 1) c.args.into.now both refl (omega (arith, c.loop-i-test.true, c.loop-block.auto.into))
    (long c.args.into.now c.args.one.now c.args.other.now c.requires.one c.requires.other)

pub returns : goal.returns
returns c =
    c.loop-i.invariant
    ∙ mixed_all c.loop-i.i c.args.into.now (plus c.args.one.now c.args.other.now) (omega (arith, c.loop-i-test.false, c.loop-i.auto.i-end, c.loop-block.auto.into))
    (long c.args.into.now c.args.one.now c.args.other.now c.requires.one c.requires.other)
    ∙ sym (plus-assoc c.args.into.now c.args.one.now c.args.other.now)
