-- The lanes of a row, and what is kept of them.
use Rattle.std.proofs.Common.{◌≡◌, ◌∙◌, ℕ, zero, suc, ◌+◌, ◌-◌, ◌*◌, ◌%◌, ◌<◌, ◌≤◌, ◌^◌, ◌==◌, Bool, true, false, not, cond, ltb, leb, w16, refl, sym, ap, arith, List, [], ◌∷◌, length, map, replicate, slice_index, get_or}
use Rattle.std.specs.Prelude.{IsTrue, ◌↔◌}
use Rattle.std.proofs.lemmas.Bool.{ltb-true, ltb-false, eqb-true}
use Rattle.std.proofs.lemmas.List.{length-map, get_or-map}
use Rattle.std.proofs.lemmas.Simd.{length-zip2, length-chunk, length-replicate, get_or-zip2, get_or-chunk, zip2_splat, tops_compared, mask_l-mod}
use Rattle.std.specs.Simd.Lanes.{Each1, zip2, chunk}
use lib.Lanes.{sel_l, mask_l, top}
use Rattle.cleaner.specs.Choosing.{IsRankRow}
use Rattle.cleaner.specs.Offered.{holed, in_parity, up_to}

-- two tables' row, lane by lane
pub zip_row : (f : ℕ → ℕ → ℕ) (counts slots left right lanes : List ℕ) (row : ℕ) → row < 32 → length counts ≡ 512 → length slots ≡ 512
    → left ≡ chunk (16 * row) 16 counts → right ≡ chunk (16 * row) 16 slots → lanes ≡ zip2 f left right
    → IsRankRow (λ g. f (slice_index counts g) (slice_index slots g)) row lanes
zip_row f counts slots left right lanes row low many also from upon is = record {
  many = ap length is ∙ length-zip2 f left right (whole ∙ sym full) ∙ whole;
  each = λ lane l. ap (λ v. get_or v lane 0) is
      ∙ get_or-zip2 f left right lane 0 0 0 (omega (arith, l, whole)) (omega (arith, l, full))
      ∙ ap (λ x. f x (get_or right lane 0)) (ap (λ v. get_or v lane 0) from ∙ get_or-chunk (16 * row) 16 counts lane 0 l)
      ∙ ap (λ y. f (get_or counts (16 * row + lane) 0) y) (ap (λ v. get_or v lane 0) upon ∙ get_or-chunk (16 * row) 16 slots lane 0 l);
}
  where
    whole : length left ≡ 16
    whole = ap length from ∙ length-chunk (16 * row) 16 counts (omega (arith, low, many))

    full : length right ≡ 16
    full = ap length upon ∙ length-chunk (16 * row) 16 slots (omega (arith, low, also))

-- each lane changed
pub map_row : (f rank : ℕ → ℕ) (row : ℕ) (before lanes : List ℕ) → lanes ≡ map f before → IsRankRow rank row before → IsRankRow (λ g. f (rank g)) row lanes
map_row f rank row before lanes is are = record {
  many = ap length is ∙ length-map before f ∙ are.many;
  each = λ lane l. ap (λ v. get_or v lane 0) is ∙ get_or-map f before lane 0 0 (omega (arith, l, are.many)) ∙ ap f (are.each lane l);
}

-- ---- what a test of two vectors keeps

abbrev compared : (ℕ → ℕ → Bool) → List ℕ → List ℕ → List Bool
compared t xs ys = map (top 15) (zip2 (λ a b. cond (t a b) (2 ^ 16 - 1) 0) xs ys)

-- of the first
kept : (t : ℕ → ℕ → Bool) (n : ℕ) (xs ys : List ℕ) → length xs ≡ n → length ys ≡ n → sel_l (zip2 t xs ys) xs (replicate n 0) ≡ zip2 (λ x y. cond (t x y) x 0) xs ys
kept t zero [] ys e f = refl
kept t zero (x ∷ xs) ys e f = absurd (omega (arith, e))
kept t (suc n) [] ys e f = absurd (omega (arith, e))
kept t (suc n) (x ∷ xs) [] e f = absurd (omega (arith, f))
kept t (suc n) (x ∷ xs) (y ∷ ys) e f = ap (λ rest. cond (t x y) x 0 ∷ rest) (kept t n xs ys (omega (arith, e)) (omega (arith, f)))

pub holed_lanes : (counts slots : List ℕ) → length counts ≡ 16 → length slots ≡ 16
    → sel_l (compared ltb counts slots) counts (replicate 16 0) ≡ zip2 holed counts slots
holed_lanes counts slots many also =
    ap (λ ms. sel_l ms counts (replicate 16 0)) (tops_compared w16 ltb counts slots) ∙ kept ltb 16 counts slots many also

pub few_lanes : (counts : List ℕ) (most : ℕ) → length counts ≡ 16
    → sel_l (compared leb counts (replicate 16 most)) counts (replicate 16 0) ≡ map (λ count. up_to most count) counts
few_lanes counts most many =
    ap (λ ms. sel_l ms counts (replicate 16 0)) (tops_compared w16 leb counts (replicate 16 most))
    ∙ kept leb 16 counts (replicate 16 most) many (length-replicate 16 most)
    ∙ zip2_splat (λ x y. cond (leb x y) x 0) counts 16 most many

-- of the first, where the second isn't 0
some_kept : (n : ℕ) (xs ys : List ℕ) → length xs ≡ n → length ys ≡ n → sel_l (zip2 ltb (replicate n 0) ys) xs ys ≡ zip2 in_parity xs ys
some_kept zero [] ys e f = refl
some_kept zero (x ∷ xs) ys e f = absurd (omega (arith, e))
some_kept (suc n) [] ys e f = absurd (omega (arith, e))
some_kept (suc n) (x ∷ xs) [] e f = absurd (omega (arith, f))
some_kept (suc n) (x ∷ xs) (y ∷ ys) e f = rw (one (ltb 0 y) refl, some_kept n xs ys (omega (arith, e)) (omega (arith, f))) refl
  where
    one : (t : Bool) → ltb 0 y ≡ t → cond (ltb 0 y) x y ≡ cond (ltb 0 y) x 0
    one true is = rw is refl
    one false is = let none : y ≡ 0 = omega (arith, ltb-false 0 y is) in rw (is, none) refl

pub parity_lanes : (counts slots : List ℕ) → length counts ≡ 16 → length slots ≡ 16
    → sel_l (compared ltb (replicate 16 0) slots) counts slots ≡ zip2 in_parity counts slots
parity_lanes counts slots many also =
    ap (λ ms. sel_l ms counts slots) (tops_compared w16 ltb (replicate 16 0) slots) ∙ some_kept 16 counts slots many also

-- ---- whether a lane is above a rank

abbrev above : ℕ → ℕ → List ℕ → List Bool
above rank n lanes = compared ltb (replicate n rank) lanes

length-above : (rank n : ℕ) (lanes : List ℕ) → length lanes ≡ n → length (above rank n lanes) ≡ n
length-above rank zero [] e = refl
length-above rank zero (x ∷ lanes) e = absurd (omega (arith, e))
length-above rank (suc n) [] e = absurd (omega (arith, e))
length-above rank (suc n) (x ∷ lanes) e = let rest = length-above rank n lanes (omega (arith, e)) in omega (arith, rest)

above_none : (rank n : ℕ) (lanes : List ℕ) → length lanes ≡ n → mask_l (above rank n lanes) ≡ 0 → Each1 (λ lane. lane ≤ rank) lanes
above_none rank zero [] e h = tt
above_none rank zero (x ∷ lanes) e h = absurd (omega (arith, e))
above_none rank (suc n) [] e h = absurd (omega (arith, e))
above_none rank (suc n) (x ∷ lanes) e h = by (ltb rank x) refl (above_none rank n lanes (omega (arith, e)))
  where
    by : (t : Bool) → ltb rank x ≡ t → (mask_l (above rank n lanes) ≡ 0 → Each1 (λ lane. lane ≤ rank) lanes) → (x ≤ rank) × Each1 (λ lane. lane ≤ rank) lanes
    by true t rest = let m : 1 + 2 * mask_l (above rank n lanes) ≡ 0 = rw t at h in absurd (omega (arith, m))
    by false t rest = let m : 0 + 2 * mask_l (above rank n lanes) ≡ 0 = rw t at h in (ltb-false _ _ t, rest (omega (arith, m)))

none_above : (rank n : ℕ) (lanes : List ℕ) → length lanes ≡ n → Each1 (λ lane. lane ≤ rank) lanes → mask_l (above rank n lanes) ≡ 0
none_above rank zero [] e h = refl
none_above rank zero (x ∷ lanes) e h = absurd (omega (arith, e))
none_above rank (suc n) [] e h = absurd (omega (arith, e))
none_above rank (suc n) (x ∷ lanes) e h = by (ltb rank x) refl (none_above rank n lanes (omega (arith, e)) h.1)
  where
    by : (t : Bool) → ltb rank x ≡ t → mask_l (above rank n lanes) ≡ 0 → mask_l (above rank (suc n) (x ∷ lanes)) ≡ 0
    by true t rest = absurd (omega (arith, ltb-true _ _ t, h.0))
    by false t rest = rw (t, rest) refl

not_not : (t : Bool) → IsTrue (not (not t)) → t ≡ true
not_not true h = refl
not_not false h = cc h

pub within_seen : (rank : ℕ) (lanes : List ℕ) → length lanes ≡ 16
    → IsTrue (not (not (mask_l (above rank 16 lanes) % 2 ^ 64 == 0))) ↔ Each1 (λ lane. lane ≤ rank) lanes
within_seen rank lanes many =
    let whole : mask_l (above rank 16 lanes) % 2 ^ 64 ≡ mask_l (above rank 16 lanes) = mask_l-mod (above rank 16 lanes) 64 (omega (arith, length-above rank 16 lanes many)) in (
      λ h. above_none rank 16 lanes many (sym whole ∙ eqb-true _ _ (not_not _ h)),
      λ h. rw (whole, none_above rank 16 lanes many h) refl,
    )
