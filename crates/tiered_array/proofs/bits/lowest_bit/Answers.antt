use Rattle.std.proofs.Common.{sym, ◌∙◌, ◌≡◌, arith, w64}
use Rattle.std.proofs.lemmas.Nat.Bits.{bit_at-trailing_zeros}
use Rattle.tiered_array.proofs.bits.lowest_bit.Goals as goal

pub returns : goal.returns
returns c =
    let lowest = bit_at-trailing_zeros w64 c.args.word (omega arith) c.ranges.word.fits in
    (lowest.0, lowest.1, λ lower low has. let both : 1 ≡ 0 = sym has ∙ lowest.2 lower low in absurd (omega (arith, both)))
