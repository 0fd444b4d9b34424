-- The bytes that are encoded so far.
use Rattle.std.proofs.Common.{◌≡◌, ℕ, zero, suc, ◌+◌, ◌*◌, ◌/◌, ◌%◌, ◌^◌, ◌<◌, ◌≤◌, List, [], ◌∷◌, ◌++◌, length, map, take, drop, replicate, slice_index, get_or, bit_and, w8, Fits, refl, sym, ap, ◌∙◌, arith, subst}
use Rattle.std.proofs.lemmas.List.{get_or-map, length-map, ext_get_or, append_assoc}
use Rattle.std.proofs.lemmas.Nat.{and_mask}
use Rattle.std.proofs.lemmas.Simd.{Each1-get_or, length-chunk, chunk-drop, swz_l, SwzOk, SwzOk-from_below, length-swz_l, get_or-swz_l_below, take_more_put_chunk, length-put_chunk}
use Rattle.std.specs.Simd.Lanes.{Each1, zip2, chunk, put_chunk}
use lib.Lanes.{pick_l}
use Rattle.hex.specs.Hex.{encode_lower, encode_with, lower_digits}
use Rattle.hex_lanes.specs.Halves.{halves}
use Rattle.hex_lanes.proofs.Lanes.{in_lanes, first_chunk, second_chunk, IsHalf}

-- ---- halves

abbrev shifted : ℕ → ℕ → ℕ
shifted a b = a / 2 ^ b

-- the halves of bytes, as a vector has them
abbrev masked : List ℕ → List ℕ
masked [] = []
masked (byte ∷ rest) = byte / 16 ∷ bit_and byte 15 ∷ masked rest

masked_is : (v : List ℕ) → masked v ≡ halves v
masked_is [] = refl
masked_is (byte ∷ rest) =
    let low : bit_and byte 15 ≡ byte % 16 = and_mask byte 4 in
    rw (low, masked_is rest) refl

-- the high ones and the low ones in turn
abbrev in_turn : List ℕ → List ℕ
in_turn v =
    pick_l 0 (zip2 shifted v (replicate 8 4) ++ zip2 bit_and v (replicate 8 15))
    (0 ∷ 8 ∷ 1 ∷ 9 ∷ 2 ∷ 10 ∷ 3 ∷ 11 ∷ 4 ∷ 12 ∷ 5 ∷ 13 ∷ 6 ∷ 14 ∷ 7 ∷ 15 ∷ [])

in_turn_is : (v : List ℕ) → length v ≡ 8 → in_turn v ≡ masked v
in_turn_is v e = rw (in_lanes 8 v e) refl

pub halves_are : (v : List ℕ) → length v ≡ 8 → in_turn v ≡ halves v
halves_are v e = in_turn_is v e ∙ masked_is v

-- the same of sixteen bytes, eight and eight
abbrev nibbles : List ℕ → List ℕ
nibbles v = zip2 shifted v (replicate 16 4) ++ zip2 bit_and v (replicate 16 15)

abbrev first_in_turn : List ℕ → List ℕ
first_in_turn v = pick_l 0 (nibbles v) (0 ∷ 16 ∷ 1 ∷ 17 ∷ 2 ∷ 18 ∷ 3 ∷ 19 ∷ 4 ∷ 20 ∷ 5 ∷ 21 ∷ 6 ∷ 22 ∷ 7 ∷ 23 ∷ [])

abbrev second_in_turn : List ℕ → List ℕ
second_in_turn v = pick_l 0 (nibbles v) (8 ∷ 24 ∷ 9 ∷ 25 ∷ 10 ∷ 26 ∷ 11 ∷ 27 ∷ 12 ∷ 28 ∷ 13 ∷ 29 ∷ 14 ∷ 30 ∷ 15 ∷ 31 ∷ [])

first_masked : (v : List ℕ) → length v ≡ 16 → first_in_turn v ≡ masked (take 8 v)
first_masked v e = rw (in_lanes 16 v e) refl

second_masked : (v : List ℕ) → length v ≡ 16 → second_in_turn v ≡ masked (drop 8 v)
second_masked v e = rw (in_lanes 16 v e) refl

pub first_halves_are : (v : List ℕ) → length v ≡ 16 → first_in_turn v ≡ halves (take 8 v)
first_halves_are v e = first_masked v e ∙ masked_is (take 8 v)

pub second_halves_are : (v : List ℕ) → length v ≡ 16 → second_in_turn v ≡ halves (drop 8 v)
second_halves_are v e = second_masked v e ∙ masked_is (drop 8 v)

small : (v : List ℕ) → Each1 (Fits w8) v → Each1 IsHalf (halves v)
small [] h = tt
small (byte ∷ rest) h = (omega (arith, h.0.fits), (omega arith, small rest h.1))

pub halves_small : (v : List ℕ) → length v ≡ 8 → Each1 (Fits w8) v → Each1 IsHalf (in_turn v)
halves_small v e h = subst (λ s. Each1 IsHalf s) (sym (halves_are v e)) (small v h)

Each1-take : (P : ℕ → Type 0) (n : ℕ) (v : List ℕ) → Each1 P v → Each1 P (take n v)
Each1-take P zero v h = tt
Each1-take P (suc n) [] h = tt
Each1-take P (suc n) (x ∷ v) h = (h.0, Each1-take P n v h.1)

Each1-drop : (P : ℕ → Type 0) (n : ℕ) (v : List ℕ) → Each1 P v → Each1 P (drop n v)
Each1-drop P zero v h = h
Each1-drop P (suc n) [] h = tt
Each1-drop P (suc n) (x ∷ v) h = Each1-drop P n v h.1

pub all_halves_small : (v : List ℕ) → length v ≡ 16 → Each1 (Fits w8) v → Each1 IsHalf (first_in_turn v) × Each1 IsHalf (second_in_turn v)
all_halves_small v e h = (
  subst (λ s. Each1 IsHalf s) (sym (first_halves_are v e)) (small (take 8 v) (Each1-take (Fits w8) 8 v h)),
  subst (λ s. Each1 IsHalf s) (sym (second_halves_are v e)) (small (drop 8 v) (Each1-drop (Fits w8) 8 v h)),
)

length-halves : (v : List ℕ) → length (halves v) ≡ 2 * length v
length-halves [] = refl
length-halves (byte ∷ rest) = let more = length-halves rest in omega (arith, more)

-- ---- the digits of halves

pub places_ok : (v : List ℕ) → length v ≡ 16 → Each1 IsHalf v → SwzOk w8 16 16 0 v
places_ok v long h = SwzOk-from_below w8 16 1 16 0 v refl (omega (arith, long)) h

abbrev digit : ℕ → ℕ
digit half = slice_index lower_digits half

pub looked_up : (v : List ℕ) → length v ≡ 16 → Each1 IsHalf v → swz_l w8 16 lower_digits 0 v ≡ map digit v
looked_up v long h =
    ext_get_or 0 _ _ (length-swz_l w8 16 lower_digits 0 v ∙ sym (length-map v digit)) (λ i l.
    let within : i < length v = omega (arith, l, length-swz_l w8 16 lower_digits 0 v) in
    let half : get_or v i 0 < 16 = Each1-get_or IsHalf v i 0 within h in
    let row : 16 * ((0 + i) / 16) + get_or v i 0 ≡ get_or v i 0 = omega (arith, long) in
    get_or-swz_l_below w8 16 lower_digits 0 v i within half ∙ ap digit row ∙ sym (get_or-map digit v i 0 0 within))

-- the digits of halves are those of the bytes
digits_are : (v rest : List ℕ) → map digit (halves v) ++ encode_lower rest ≡ encode_lower (v ++ rest)
unfolding encode_with
digits_are [] rest = refl
digits_are (byte ∷ v) rest = ap (λ (more : List ℕ). digit (byte / 16) ∷ digit (byte % 16) ∷ more) (digits_are v rest)

-- ---- so far

-- the first k bytes are encoded: their digits, and then those of the rest, are the digits of all bytes
abbrev pub IsEncoded : ℕ → List ℕ → List ℕ → Type 0
IsEncoded k bytes out = take (2 * k) out ++ encode_lower (drop k bytes) ≡ encode_lower bytes

-- eight bytes more
more_encoded : (k : ℕ) (bytes out small digits : List ℕ) → k + 8 ≤ length bytes → length out ≡ 2 * length bytes
    → small ≡ halves (chunk k 8 bytes) → digits ≡ map digit small
    → IsEncoded k bytes out → IsEncoded (k + 8) bytes (put_chunk (2 * k) out digits)
more_encoded k bytes out small digits fits twice split looked done =
    let more : List ℕ = chunk k 8 bytes in
    let rest : List ℕ = drop (k + 8) bytes in
    let spelt : digits ≡ map digit (halves more) = looked ∙ ap (map digit) split in
    let eight : length more ≡ 8 = length-chunk k 8 bytes fits in
    let long : length digits ≡ 16 = omega (arith, eight, length-halves more, length-map (halves more) digit, ap length spelt) in
    let written = take_more_put_chunk (2 * k) out digits (2 * (k + 8)) (omega (arith, long)) (omega (arith, fits, twice)) in
    let all : digits ++ encode_lower rest ≡ encode_lower (drop k bytes) =
    ap (λ (front : List ℕ). front ++ encode_lower rest) spelt ∙ digits_are more rest ∙ ap encode_lower (sym (chunk-drop k 8 bytes)) in
    rw (written, append_assoc, all) done

-- one step more
pub step_encoded : (s : ℕ) (bytes out small digits : List ℕ) → 8 * s + 8 ≤ length bytes → length out ≡ 2 * length bytes
    → small ≡ halves (chunk (8 * s) 8 bytes) → digits ≡ map digit small
    → IsEncoded (8 * s) bytes out → IsEncoded (8 * (s + 1)) bytes (put_chunk (2 * (8 * s)) out digits)
step_encoded s bytes out small digits fits twice split looked done =
    let next : 8 * (s + 1) ≡ 8 * s + 8 = omega arith in
    rw next (more_encoded (8 * s) bytes out small digits fits twice split looked done)

-- one turn more, of eight bytes and eight
pub turn_encoded : (t : ℕ) (bytes out first second ones others : List ℕ) → 16 * t + 16 ≤ length bytes → length out ≡ 2 * length bytes
    → first ≡ halves (take 8 (chunk (16 * t) 16 bytes)) → second ≡ halves (drop 8 (chunk (16 * t) 16 bytes))
    → ones ≡ map digit first → others ≡ map digit second
    → IsEncoded (16 * t) bytes out
    → IsEncoded (16 * (t + 1)) bytes (put_chunk (2 * (16 * t) + 16) (put_chunk (2 * (16 * t)) out ones) others)
turn_encoded t bytes out first second ones others fits twice one other looked too done =
    let k : ℕ = 16 * t in
    let next : 16 * (t + 1) ≡ k + 8 + 8 = omega arith in
    let there : 2 * k + 16 ≡ 2 * (k + 8) = omega arith in
    let here : List ℕ = put_chunk (2 * k) out ones in
    let same : length here ≡ length out = length-put_chunk (2 * k) out ones in
    let half = more_encoded k bytes out first ones (omega (arith, fits)) twice (one ∙ ap halves (first_chunk k 8 8 (k + 8) 16 bytes refl refl (omega (arith, fits)))) looked done in
    rw (next, there) (more_encoded (k + 8) bytes here second others (omega (arith, fits)) (same ∙ twice)
    (other ∙ ap halves (second_chunk k 8 8 (k + 8) 16 bytes refl refl (omega (arith, fits)))) too half)
