-- What digits spell.
use Rattle.std.proofs.Common.{◌≡◌, ℕ, zero, suc, ◌+◌, ◌*◌, ◌%◌, List, [], ◌∷◌, ◌++◌, length, map, Ok, Option, Some, None, true, refl, ap, ◌∙◌, arith}
use Rattle.std.proofs.lemmas.List.Elements.{All-head, All-tail}
use Rattle.std.specs.List.{AllPass}
use Rattle.std.specs.Simd.Lanes.{Each1}
use Rattle.hex.specs.Hex.{decode_pairs, decode_sized, digit_or_error, hex_digit_value, is_hex_digit, pair_value, value_at}
use Rattle.hex.proofs.HexLemmas.{IsOk-decode_sized}
use Rattle.hex.proofs.Pairs.{cons_byte, decode_pairs-ok_pair, decode_sized-pairs}
use Rattle.hex_lanes.specs.Halves.{value_or_more, joined_halves}
use Rattle.hex_lanes.proofs.Lanes.{IsHalf}

abbrev pub IsDigit : ℕ → Type 0
IsDigit c = IsHalf (value_or_more c)

-- the bytes that digits spell
abbrev pub spelled : List ℕ → List ℕ
spelled s = joined_halves (map value_or_more s)

-- ---- one digit

digit_some : (c : ℕ) → IsDigit c → hex_digit_value c ≡ Some (value_or_more c)
digit_some c h = go (hex_digit_value c) refl
  where
    go : (o : Option ℕ) → hex_digit_value c ≡ o → hex_digit_value c ≡ Some (value_or_more c)
    go (Some v) e = rw e refl
    go None e = let big : value_or_more c ≡ 255 = rw e refl in absurd (omega (arith, h, big))

value_of_digit : (c i : ℕ) → IsDigit c → value_at c i ≡ Ok (value_or_more c)
value_of_digit c i h = ap (digit_or_error c i) (digit_some c h)

digit_from_test : (c : ℕ) → is_hex_digit c ≡ true → IsDigit c
digit_from_test c h = grind (arith)

-- ---- texts of digits

digits_from_test : (s : List ℕ) → AllPass is_hex_digit s → Each1 IsDigit s
digits_from_test [] h = tt
digits_from_test (c ∷ s) h = (
  digit_from_test c (All-head (λ x. is_hex_digit x ≡ true) c s h),
  digits_from_test s (All-tail (λ x. is_hex_digit x ≡ true) c s h),
)

pairs_spelled : (i : ℕ) (s : List ℕ) → length s % 2 ≡ 0 → Each1 IsDigit s → decode_pairs i s ≡ Ok (spelled s)
unfolding decode_pairs
pairs_spelled i [] even h = refl
pairs_spelled i (a ∷ []) even h = absurd (omega arith)
pairs_spelled i (a ∷ b ∷ rest) even h =
    let byte : ℕ = value_or_more a * 16 + value_or_more b in
    let pair : pair_value a b i ≡ Ok byte = rw (value_of_digit a i h.0, value_of_digit b (i + 1) h.1.0) refl in
    decode_pairs-ok_pair i a b byte rest pair ∙ ap (cons_byte byte) (pairs_spelled (i + 2) rest (omega arith) h.1.1)

-- digits decode to what they spell
pub decoded : (n : ℕ) (s : List ℕ) → length s ≡ 2 * n → Each1 IsDigit s → decode_sized s n ≡ Ok (spelled s)
decoded n s long h =
    let even : length s % 2 ≡ 0 = omega (arith, long) in
    decode_sized-pairs s n even (omega (arith, long)) ∙ pairs_spelled 0 s even h

-- what decodes is digits
pub digits_of : (n : ℕ) (s bytes : List ℕ) → decode_sized s n ≡ Ok bytes → Each1 IsDigit s
digits_of n s bytes e = digits_from_test s ((IsOk-decode_sized s n).0 (rw e refl)).1

-- ---- texts of parts

pub Each1-append : (P : ℕ → Type 0) (xs ys : List ℕ) → Each1 P xs → Each1 P ys → Each1 P (xs ++ ys)
Each1-append P [] ys h k = k
Each1-append P (x ∷ xs) ys h k = (h.0, Each1-append P xs ys h.1 k)

pub Each1-following : (P : ℕ → Type 0) (xs ys : List ℕ) → Each1 P (xs ++ ys) → Each1 P ys
Each1-following P [] ys h = h
Each1-following P (x ∷ xs) ys h = Each1-following P xs ys h.1

pub spelled-append : (xs ys : List ℕ) → length xs % 2 ≡ 0 → spelled (xs ++ ys) ≡ spelled xs ++ spelled ys
spelled-append [] ys e = refl
spelled-append (a ∷ []) ys e = absurd (omega arith)
spelled-append (a ∷ b ∷ xs) ys e =
    ap (λ (rest : List ℕ). (value_or_more a * 16 + value_or_more b) ∷ rest) (spelled-append xs ys (omega arith))

pub length-spelled : (n : ℕ) (s : List ℕ) → length s ≡ 2 * n → length (spelled s) ≡ n
length-spelled n [] e = omega (arith, e)
length-spelled n (a ∷ []) e = absurd (omega (arith, e))
length-spelled zero (a ∷ b ∷ s) e = absurd (omega (arith, e))
length-spelled (suc n) (a ∷ b ∷ s) e = let rest = length-spelled n s (omega (arith, e)) in omega (arith, rest)

-- ---- the values of digits

pub digits_from_values : (s : List ℕ) → Each1 IsHalf (map value_or_more s) → Each1 IsDigit s
digits_from_values [] h = tt
digits_from_values (c ∷ s) h = (h.0, digits_from_values s h.1)
