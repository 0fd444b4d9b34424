-- What the lanes of digits come to.
use Rattle.std.proofs.Common.{◌≡◌, ℕ, zero, suc, ◌+◌, ◌-◌, ◌*◌, ◌%◌, ◌^◌, ◌<◌, ◌==◌, Bool, true, false, not, ◌&&◌, cond, leb, ltb, List, [], ◌∷◌, ◌++◌, length, map, replicate, bit_and, w8, Fits, refl, sym, ap, ◌∙◌, arith, inl, inr, leb-true, leb-false, ltb-true, ltb-false, subst}
use Rattle.std.proofs.lemmas.Bool.{and_parts, cases_lt, eqb-true}
use Rattle.std.proofs.lemmas.Simd.{mask_l-mod}
use Rattle.std.specs.Simd.Lanes.{Each1, zip2}
use lib.Lanes.{sel_l, mask_l, top, pick_l}
use Rattle.std.specs.Prelude.{IsTrue, ◌↔◌}
use Rattle.hex_lanes.specs.Halves.{value_or_more, joined_halves}
use Rattle.hex_lanes.proofs.Lanes.{in_lanes, IsHalf}

-- ---- the value of one digit

abbrev pub less : ℕ → ℕ → ℕ
less a b = (a + (2 ^ 8 - b)) % 2 ^ 8

abbrev pub more : ℕ → ℕ → ℕ
more a b = (a + b) % 2 ^ 8

abbrev pub below : ℕ → ℕ → ℕ
below a b = cond (ltb a b) 255 0

-- the greater of both, and the lesser
abbrev pub greater : ℕ → ℕ → ℕ
greater a b = cond (top 7 (below a b)) b a

abbrev lesser : ℕ → ℕ → ℕ
lesser a b = cond (top 7 (below a b)) a b

abbrev decimal : ℕ → ℕ
decimal c = less (greater (more c 198) 6) 246

abbrev letter : ℕ → ℕ
letter c = more (lesser (less (bit_and c 223) 65) 239) 10

abbrev lane : ℕ → ℕ
lane c = lesser (decimal c) (letter c)

-- a lane is its digit's value, or neither is a half byte
abbrev is_right : ℕ → Bool
is_right c = cond (ltb (lane c) 16) (lane c == value_or_more c) (leb 16 (value_or_more c))

-- the lanes of all bytes below n are correct
abbrev all_right : ℕ → Bool
all_right zero = true
all_right (suc n) = is_right n && all_right n

right_below : (n c : ℕ) → all_right n ≡ true → c < n → is_right c ≡ true
right_below zero c h l = absurd (omega arith)
right_below (suc n) c h l =
    let parts = and_parts (is_right n) (all_right n) h in
    elim (cases_lt c n) [
      | inl lower ↦ right_below n c parts.1 lower
      | inr last ↦
          let e : c ≡ n = omega arith in
          rw e parts.0
    ]

right : (c : ℕ) → c < 256 → is_right c ≡ true
right c l = right_below 256 c refl l

lane_is : (c : ℕ) → c < 256 → IsHalf (lane c) → lane c ≡ value_or_more c
lane_is c l half = go (ltb (lane c) 16) refl (right c l)
  where
    go : (t : Bool) → ltb (lane c) 16 ≡ t → cond t (lane c == value_or_more c) (leb 16 (value_or_more c)) ≡ true → lane c ≡ value_or_more c
    go true t is = eqb-true _ _ is
    go false t is = absurd (omega (arith, ltb-false _ _ t, half))

digit_lane : (c : ℕ) → c < 256 → IsHalf (value_or_more c) → IsHalf (lane c)
digit_lane c l half = go (ltb (lane c) 16) refl (right c l)
  where
    go : (t : Bool) → ltb (lane c) 16 ≡ t → cond t (lane c == value_or_more c) (leb 16 (value_or_more c)) ≡ true → IsHalf (lane c)
    go true t is = omega (arith, ltb-true _ _ t)
    go false t is = absurd (omega (arith, leb-true _ _ is, half))

-- ---- the values of n digits

abbrev sums : ℕ → List ℕ → List ℕ
sums n v = zip2 more v (replicate n 198)

abbrev decimals : ℕ → List ℕ → List ℕ
decimals n v = zip2 less (sel_l (map (top 7) (zip2 below (sums n v) (replicate n 6))) (replicate n 6) (sums n v)) (replicate n 246)

abbrev capitals : ℕ → List ℕ → List ℕ
capitals n v = zip2 less (zip2 bit_and v (replicate n 223)) (replicate n 65)

abbrev letters : ℕ → List ℕ → List ℕ
letters n v =
    zip2 more (sel_l (map (top 7) (zip2 below (capitals n v) (replicate n 239))) (capitals n v) (replicate n 239)) (replicate n 10)

abbrev values : ℕ → List ℕ → List ℕ
values n v = sel_l (map (top 7) (zip2 below (decimals n v) (letters n v))) (decimals n v) (letters n v)

lanes_are : (n : ℕ) (v : List ℕ) → length v ≡ n → values n v ≡ map lane v
lanes_are zero [] e = refl
lanes_are (suc n) [] e = absurd (omega arith)
lanes_are zero (c ∷ v) e = absurd (omega arith)
lanes_are (suc n) (c ∷ v) e = ap (λ rest. lane c ∷ rest) (lanes_are n v (omega arith))

lanes_mean : (v : List ℕ) → Each1 (Fits w8) v → Each1 IsHalf (map lane v) → map lane v ≡ map value_or_more v
lanes_mean [] fits h = refl
lanes_mean (c ∷ v) fits h = rw (lane_is c fits.0.fits h.0, lanes_mean v fits.1 h.1) refl

digits_mean : (v : List ℕ) → Each1 (Fits w8) v → Each1 (λ c. IsHalf (value_or_more c)) v → Each1 IsHalf (map lane v)
digits_mean [] fits h = tt
digits_mean (c ∷ v) fits h = (digit_lane c fits.0.fits h.0, digits_mean v fits.1 h.1)

pub values_mean : (n : ℕ) (v : List ℕ) → length v ≡ n → Each1 (Fits w8) v → Each1 IsHalf (values n v) → values n v ≡ map value_or_more v
values_mean n v e fits h =
    let are : values n v ≡ map lane v = lanes_are n v e in
    are ∙ lanes_mean v fits (rw are at h)

pub digits_have_values : (n : ℕ) (v : List ℕ) → length v ≡ n → Each1 (Fits w8) v → Each1 (λ c. IsHalf (value_or_more c)) v → Each1 IsHalf (values n v)
digits_have_values n v e fits h = subst (λ s. Each1 IsHalf s) (sym (lanes_are n v e)) (digits_mean v fits h)

-- ---- whether they are half bytes

abbrev not_below : ℕ → ℕ → ℕ
not_below a b = cond (leb a b) 255 0

-- the lanes that aren't half bytes
abbrev pub others : ℕ → List ℕ → List Bool
others n v = map (top 7) (zip2 not_below (replicate n 16) v)

length-others : (n : ℕ) (v : List ℕ) → length v ≡ n → length (others n v) ≡ n
length-others zero [] e = refl
length-others zero (x ∷ v) e = absurd (omega arith)
length-others (suc n) [] e = absurd (omega arith)
length-others (suc n) (x ∷ v) e = let rest = length-others n v (omega arith) in omega (arith, rest)

others_none : (n : ℕ) (v : List ℕ) → length v ≡ n → mask_l (others n v) ≡ 0 → Each1 IsHalf v
others_none zero [] e h = tt
others_none zero (x ∷ v) e h = absurd (omega arith)
others_none (suc n) [] e h = absurd (omega arith)
others_none (suc n) (x ∷ v) e h = go (leb 16 x) refl (others_none n v (omega arith))
  where
    go : (t : Bool) → leb 16 x ≡ t → (mask_l (others n v) ≡ 0 → Each1 IsHalf v) → IsHalf x × Each1 IsHalf v
    go true t rest = let m : 1 + 2 * mask_l (others n v) ≡ 0 = rw t at h in absurd (omega (arith, m))
    go false t rest = let m : 0 + 2 * mask_l (others n v) ≡ 0 = rw t at h in (omega (arith, leb-false _ _ t), rest (omega (arith, m)))

none_others : (n : ℕ) (v : List ℕ) → length v ≡ n → Each1 IsHalf v → mask_l (others n v) ≡ 0
none_others zero [] e h = refl
none_others zero (x ∷ v) e h = absurd (omega arith)
none_others (suc n) [] e h = absurd (omega arith)
none_others (suc n) (x ∷ v) e h = go (leb 16 x) refl (none_others n v (omega arith) h.1)
  where
    go : (t : Bool) → leb 16 x ≡ t → mask_l (others n v) ≡ 0 → mask_l (others (suc n) (x ∷ v)) ≡ 0
    go true t rest = absurd (omega (arith, leb-true _ _ t, h.0))
    go false t rest = rw (t, rest) refl

not_not : (t : Bool) → IsTrue (not (not t)) → t ≡ true
not_not true h = refl
not_not false h = cc h

pub halves_seen : (v : List ℕ) → length v ≡ 16 → IsTrue (not (not (mask_l (others 16 v) % 2 ^ 64 == 0))) ↔ Each1 IsHalf v
halves_seen v e =
    let whole : mask_l (others 16 v) % 2 ^ 64 ≡ mask_l (others 16 v) = mask_l-mod (others 16 v) 64 (omega (arith, length-others 16 v e)) in (
      λ h. others_none 16 v e (sym whole ∙ eqb-true _ _ (not_not _ h)),
      λ h. rw (whole, none_others 16 v e h) refl,
    )

-- ---- whether those of two vectors are

abbrev greatest : List ℕ → List ℕ → List ℕ
greatest v w = sel_l (map (top 7) (zip2 below v w)) w v

parts_half : (a b : ℕ) → IsHalf (greater a b) → IsHalf a × IsHalf b
parts_half a b h = go (ltb a b) refl h
  where
    go : (t : Bool) → ltb a b ≡ t → IsHalf (cond (top 7 (cond t 255 0)) b a) → IsHalf a × IsHalf b
    go true t half = (omega (arith, ltb-true _ _ t, half), half)
    go false t half = (half, omega (arith, ltb-false _ _ t, half))

greater_half : (a b : ℕ) → IsHalf a → IsHalf b → IsHalf (greater a b)
greater_half a b h k = go (ltb a b)
  where
    go : (t : Bool) → IsHalf (cond (top 7 (cond t 255 0)) b a)
    go true = k
    go false = h

all_parts_half : (n : ℕ) (v w : List ℕ) → length v ≡ n → length w ≡ n → Each1 IsHalf (greatest v w) → Each1 IsHalf v × Each1 IsHalf w
all_parts_half zero [] [] e f h = (tt, tt)
all_parts_half zero (a ∷ v) w e f h = absurd (omega arith)
all_parts_half zero [] (b ∷ w) e f h = absurd (omega arith)
all_parts_half (suc n) [] w e f h = absurd (omega arith)
all_parts_half (suc n) (a ∷ v) [] e f h = absurd (omega arith)
all_parts_half (suc n) (a ∷ v) (b ∷ w) e f h =
    let one = parts_half a b h.0 in
    let rest = all_parts_half n v w (omega arith) (omega arith) h.1 in
    ((one.0, rest.0), (one.1, rest.1))

all_greater_half : (n : ℕ) (v w : List ℕ) → length v ≡ n → length w ≡ n → Each1 IsHalf v → Each1 IsHalf w → Each1 IsHalf (greatest v w)
all_greater_half zero [] [] e f h k = tt
all_greater_half zero (a ∷ v) w e f h k = absurd (omega arith)
all_greater_half zero [] (b ∷ w) e f h k = absurd (omega arith)
all_greater_half (suc n) [] w e f h k = absurd (omega arith)
all_greater_half (suc n) (a ∷ v) [] e f h k = absurd (omega arith)
all_greater_half (suc n) (a ∷ v) (b ∷ w) e f h k = (greater_half a b h.0 k.0, all_greater_half n v w (omega arith) (omega arith) h.1 k.1)

pub both_seen : (n : ℕ) (v w : List ℕ) → length v ≡ n → length w ≡ n → Each1 IsHalf (greatest v w) ↔ Each1 IsHalf v × Each1 IsHalf w
both_seen n v w e f = (all_parts_half n v w e f, λ both. all_greater_half n v w e f both.0 both.1)

-- ---- the bytes that they make

abbrev byte_of : ℕ → ℕ → ℕ
byte_of high low = (high * 16 % 256 + low) % 256

abbrev pairs : List ℕ → List ℕ
pairs [] = []
pairs (high ∷ []) = []
pairs (high ∷ low ∷ rest) = byte_of high low ∷ pairs rest

pairs_are : (v : List ℕ) → Each1 IsHalf v → pairs v ≡ joined_halves v
pairs_are [] h = refl
pairs_are (high ∷ []) h = refl
pairs_are (high ∷ low ∷ rest) h =
    let one : byte_of high low ≡ high * 16 + low = omega (arith, h.0, h.1.0) in
    rw (one, pairs_are rest h.1.1) refl

-- the pairs of two vectors, side by side
abbrev evens : List ℕ → List ℕ
evens v = pick_l 0 v (0 ∷ 2 ∷ 4 ∷ 6 ∷ 8 ∷ 10 ∷ 12 ∷ 14 ∷ 16 ∷ 18 ∷ 20 ∷ 22 ∷ 24 ∷ 26 ∷ 28 ∷ 30 ∷ [])

abbrev odds : List ℕ → List ℕ
odds v = pick_l 0 v (1 ∷ 3 ∷ 5 ∷ 7 ∷ 9 ∷ 11 ∷ 13 ∷ 15 ∷ 17 ∷ 19 ∷ 21 ∷ 23 ∷ 25 ∷ 27 ∷ 29 ∷ 31 ∷ [])

both_paired : (v : List ℕ) → length v ≡ 32 → zip2 byte_of (evens v) (odds v) ≡ pairs v
both_paired v e = rw (in_lanes 32 v e) refl

pub both_are : (v : List ℕ) → length v ≡ 32 → Each1 IsHalf v → zip2 byte_of (evens v) (odds v) ≡ joined_halves v
both_are v e h = both_paired v e ∙ pairs_are v h

abbrev highs : List ℕ → List ℕ
highs v = pick_l 0 (v ++ v) (0 ∷ 2 ∷ 4 ∷ 6 ∷ 8 ∷ 10 ∷ 12 ∷ 14 ∷ [])

abbrev lows : List ℕ → List ℕ
lows v = pick_l 0 (v ++ v) (1 ∷ 3 ∷ 5 ∷ 7 ∷ 9 ∷ 11 ∷ 13 ∷ 15 ∷ [])

paired : (v : List ℕ) → length v ≡ 16 → zip2 byte_of (highs v) (lows v) ≡ pairs v
paired v e = rw (in_lanes 16 v e) refl

pub bytes_are : (v : List ℕ) → length v ≡ 16 → Each1 IsHalf v → zip2 byte_of (highs v) (lows v) ≡ joined_halves v
bytes_are v e h = paired v e ∙ pairs_are v h
