-- Bytes that are written piece by piece.
use Rattle.std.proofs.Common.{◌≡◌, ◌⊎◌, inl, inr, ℕ, ◌+◌, ◌-◌, ◌*◌, ◌<◌, ◌≤◌, List, length, slice_index, sym, ap, ◌∙◌, subst, arith, Some}
use Rattle.std.proofs.lemmas.Bool.{cases_lt}
use Rattle.std.proofs.lemmas.List.{ext_get_or, places}
use Rattle.std.proofs.lemmas.Option.{slice_get-get_or, slice_get_past}
use Rattle.std.specs.Prelude.{slice_get, slice_range}
use Rattle.tiered_array.specs.Views.{TiersView}
use Rattle.byte_store.specs.Flat.{written_over}
use Rattle.array_store.specs.Blocks.{Holds, IsPiece}
use Rattle.array_store.proofs.Over.{over_long, over_before, over_here, over_after}

-- the second of two neighbouring pieces is written over the first
pub over_more : (xs : List ℕ) (o : ℕ) (first part all : List ℕ) → o + length all ≤ length xs → length all ≡ length first + length part
    → ((j : ℕ) → j < length first → slice_index first j ≡ slice_index all j)
    → ((j : ℕ) → j < length part → slice_index part j ≡ slice_index all (length first + j))
    → written_over (written_over xs o first) (o + length first) part ≡ written_over xs o all
over_more xs o first part all fits sum firsts parts =
    ext_get_or 0 (written_over mid (o + length first) part) (written_over xs o all) (long ∙ (mid_long ∙ sym (over_long xs o all fits)))
    (λ k below. go k (cases_lt k o) (cases_lt k (o + length first)) (cases_lt k (o + length all)))
  where
    mid : List ℕ
    mid = written_over xs o first

    fits_first : o + length first ≤ length xs
    fits_first = omega (arith, sum, fits)

    mid_long : length mid ≡ length xs
    mid_long = over_long xs o first fits_first

    fits_part : o + length first + length part ≤ length mid
    fits_part = omega (arith, mid_long, sum, fits)

    long : length (written_over mid (o + length first) part) ≡ length mid
    long = over_long mid (o + length first) part fits_part

    go : (k : ℕ) → (k < o) ⊎ (o ≤ k) → (k < o + length first) ⊎ (o + length first ≤ k) → (k < o + length all) ⊎ (o + length all ≤ k)
        → slice_index (written_over mid (o + length first) part) k ≡ slice_index (written_over xs o all) k
    go k (inl low) _ _ =
        let lower : k < o + length first = omega arith in
        over_before mid (o + length first) part k fits_part lower ∙ (over_before xs o first k fits_first low ∙ sym (over_before xs o all k fits low))
    go k (inr high) (inl low) _ =
        let lower : k < o + length all = omega (arith, sum, low) in
        let inside : k - o < length first = omega arith in
        over_before mid (o + length first) part k fits_part low ∙ (over_here xs o first k fits_first high low
        ∙ (firsts (k - o) inside ∙ sym (over_here xs o all k fits high lower)))
    go k (inr high) (inr higher) (inl low) =
        let lower : k < o + length first + length part = omega (arith, sum, low) in
        let inside : k - (o + length first) < length part = omega (arith, lower, higher) in
        let same : length first + (k - (o + length first)) ≡ k - o = omega arith in
        over_here mid (o + length first) part k fits_part higher lower ∙ (parts (k - (o + length first)) inside
        ∙ (ap (slice_index all) same ∙ sym (over_here xs o all k fits high low)))
    go k (inr high) (inr higher) (inr past) =
        let beyond : o + length first + length part ≤ k = omega (arith, sum, past) in
        over_after mid (o + length first) part k fits_part beyond ∙ (over_after xs o first k fits_first higher ∙ sym (over_after xs o all k fits past))

-- a piece that is written behind others
pub write_more : (u v : TiersView) (b n from m : ℕ) (part xs : List ℕ) (o : ℕ) (first all : List ℕ)
    → ((bytes : List ℕ) → Holds u bytes → b * n + from + m ≤ length bytes → Holds v (written_over bytes (b * n + from) part)) → m ≡ length part
    → Holds u (written_over xs o first) → b * n + from ≡ o + length first → o + length all ≤ length xs → length all ≡ length first + length part
    → ((j : ℕ) → j < length first → slice_index first j ≡ slice_index all j)
    → ((j : ℕ) → j < length part → slice_index part j ≡ slice_index all (length first + j))
    → Holds v (written_over xs o all)
write_more u v b n from m part xs o first all put size holds place fits sum firsts parts =
    let fits_first : o + length first ≤ length xs = omega (arith, sum, fits) in
    let long : length (written_over xs o first) ≡ length xs = over_long xs o first fits_first in
    let within : b * n + from + m ≤ length (written_over xs o first) = omega (arith, place, sum, fits, long, size) in
    subst (Holds v) (ap (λ m. written_over (written_over xs o first) m part) place ∙ over_more xs o first part all fits sum firsts parts)
    (put (written_over xs o first) holds within)

-- a piece that is read, by the length that was asked
pub read_part : (bytes part : List ℕ) (e m at : ℕ) → (e + m ≤ length bytes → IsPiece bytes at part) → m ≡ length part → e + length part ≤ length bytes → IsPiece bytes at part
read_part bytes part e m at read size ends = let within : e + m ≤ length bytes = omega (arith, size, ends) in read within

-- a piece that is read behind others
pub read_more : (bytes out part : List ℕ) (o d at : ℕ) → d + length part ≤ length out → at ≡ o + d → IsPiece bytes at part
    → ((j : ℕ) → j < d → slice_index out j ≡ slice_index bytes (o + j)) → (k : ℕ) → k < d + length part
    → slice_index (written_over out d part) k ≡ slice_index bytes (o + k)
read_more bytes out part o d at fits place piece firsts k below = go (cases_lt k d)
  where
    go : (k < d) ⊎ (d ≤ k) → slice_index (written_over out d part) k ≡ slice_index bytes (o + k)
    go (inl low) = over_before out d part k fits low ∙ firsts k low
    go (inr high) =
        let inside : k - d < length part = omega arith in
        let same : at + (k - d) ≡ o + k = omega (arith, place, high) in
        over_here out d part k fits high below ∙ (piece.each (k - d) inside ∙ ap (slice_index bytes) same)

-- bytes that were read, as a range of the disk's
pub read_all : (bytes out : List ℕ) (o n : ℕ) → length out ≡ n → o + n ≤ length bytes → ((k : ℕ) → k < n → slice_index out k ≡ slice_index bytes (o + k))
    → out ≡ slice_range bytes o (o + n)
read_all bytes out o n long fits each =
    ext_get_or 0 out (slice_range bytes o (o + n)) same_long (λ k below. let low : k < n = omega (arith, long, below) in each k low ∙ there k low)
  where
    same_long : length out ≡ length (slice_range bytes o (o + n))
    same_long = grind (arith, places)

    there : (k : ℕ) → k < n → slice_index bytes (o + k) ≡ slice_index (slice_range bytes o (o + n)) k
    there k low = grind (arith, places)

same_get : (xs ys : List ℕ) (k : ℕ) → k < length xs → k < length ys → slice_index xs k ≡ slice_index ys k → slice_get xs k ≡ slice_get ys k
same_get xs ys k in_xs in_ys same = slice_get-get_or xs k 0 in_xs ∙ (ap (λ x. Some x) same ∙ sym (slice_get-get_or ys k 0 in_ys))

-- after a front of the bytes was written, each byte is the old one or the one that was to be written
pub torn : (xs : List ℕ) (o : ℕ) (first all : List ℕ) → o + length all ≤ length xs → length first ≤ length all
    → ((j : ℕ) → j < length first → slice_index first j ≡ slice_index all j) → (k : ℕ)
    → (slice_get (written_over xs o first) k ≡ slice_get xs k) ⊎ (slice_get (written_over xs o first) k ≡ slice_get (written_over xs o all) k)
torn xs o first all fits less firsts k = go (cases_lt k (length xs)) (cases_lt k o) (cases_lt k (o + length first))
  where
    fits_first : o + length first ≤ length xs
    fits_first = omega (arith, less, fits)

    long : length (written_over xs o first) ≡ length xs
    long = over_long xs o first fits_first

    long_all : length (written_over xs o all) ≡ length xs
    long_all = over_long xs o all fits

    go : (k < length xs) ⊎ (length xs ≤ k) → (k < o) ⊎ (o ≤ k) → (k < o + length first) ⊎ (o + length first ≤ k)
        → (slice_get (written_over xs o first) k ≡ slice_get xs k) ⊎ (slice_get (written_over xs o first) k ≡ slice_get (written_over xs o all) k)
    go (inr past) _ _ =
        let past_first : length (written_over xs o first) ≤ k = omega (arith, long, past) in
        inl (slice_get_past (written_over xs o first) k past_first ∙ sym (slice_get_past xs k past))
    go (inl within) (inl low) _ =
        let within_first : k < length (written_over xs o first) = omega (arith, long, within) in
        inl (same_get (written_over xs o first) xs k within_first within (over_before xs o first k fits_first low))
    go (inl within) (inr high) (inl low) =
        let within_first : k < length (written_over xs o first) = omega (arith, long, within) in
        let within_all : k < length (written_over xs o all) = omega (arith, long_all, within) in
        let inside : k - o < length first = omega arith in
        let lower : k < o + length all = omega (arith, less, low) in
        inr (same_get (written_over xs o first) (written_over xs o all) k within_first within_all
        (over_here xs o first k fits_first high low ∙ (firsts (k - o) inside ∙ sym (over_here xs o all k fits high lower))))
    go (inl within) (inr high) (inr past) =
        let within_first : k < length (written_over xs o first) = omega (arith, long, within) in
        inl (same_get (written_over xs o first) xs k within_first within (over_after xs o first k fits_first past))
