-- The digits of bytes.
use Rattle.std.proofs.Common.{◌≡◌, ℕ, ◌*◌, List, [], ◌∷◌, ◌++◌, length, take, refl, ap, ◌∙◌, arith}
use Rattle.std.proofs.lemmas.List.{take_all, take-append-le}
use Rattle.hex.specs.Hex.{encode_lower, encode_with, lower_digits}
use Rattle.hex.proofs.HexLemmas.{length-encode_with}

encode_append : (t front back : List ℕ) → encode_with t (front ++ back) ≡ encode_with t front ++ encode_with t back
unfolding encode_with
encode_append t [] back = refl
encode_append t (byte ∷ front) back = let more = encode_append t front back in cc

-- there are two digits for each byte
length-encoded : (bytes : List ℕ) → length (encode_lower bytes) ≡ 2 * length bytes
length-encoded bytes = length-encode_with lower_digits bytes

-- the first digits are those of the first bytes
pub front_digits : (count : ℕ) (front back : List ℕ) → 2 * length front ≡ count → take count (encode_lower (front ++ back)) ≡ encode_lower front
front_digits count front back twice =
    let digits : List ℕ = encode_lower front in
    let long : length digits ≡ count = length-encoded front ∙ twice in
    ap (take count) (encode_append lower_digits front back) ∙ take-append-le count digits (encode_lower back) (omega (arith, long))
    ∙ take_all count digits (omega (arith, long))
