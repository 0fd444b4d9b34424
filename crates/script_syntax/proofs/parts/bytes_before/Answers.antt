use Rattle.std.proofs.Common.{◌==◌, ◌<◌, eqb, map, sym, ap, ◌∙◌, arith, w8}
use Rattle.std.proofs.lemmas.Simd.{bitmask_splat, leading_from_mask_l, trailing_mask_l}
use Rattle.std.specs.Simd.Lanes.{mask_l}
use Rattle.script_syntax.proofs.parts.bytes_before.Goals as goal

pub returns-then-ends-eq0 : goal.returns-then-ends-eq0
returns-then-ends-eq0 c =
    let seen = bitmask_splat w8 eqb c.args.bytes 8 c.args.separator c.fits-bytes.0 (omega arith) in
    sym (leading_from_mask_l (λ byte. byte == c.args.separator) c.args.bytes (sym seen ∙ c.if-ends-eq0.true) ∙ c.fits-bytes.0)

pub returns-else-ends-eq0 : goal.returns-else-ends-eq0
returns-else-ends-eq0 c =
    let seen = bitmask_splat w8 eqb c.args.bytes 8 c.args.separator c.fits-bytes.0 (omega arith) in
    let some : 0 < mask_l (map (λ byte. byte == c.args.separator) c.args.bytes) = omega (arith, seen, c.if-ends-eq0.false) in
    ap (λ k. lib.Count.count_trailing_zeros 64 k) seen
    ∙ trailing_mask_l (λ byte. byte == c.args.separator) 64 c.args.bytes (omega (arith, c.fits-bytes.0)) some
