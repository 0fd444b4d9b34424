-- The lanes of vectors, one by one.
use Rattle.std.proofs.Common.{◌≡◌, ℕ, zero, suc, ◌<◌, ◌≤◌, List, [], ◌∷◌, ◌++◌, ◌+◌, length, get_or, take, drop, refl, sym, ap, arith}
use Rattle.std.proofs.lemmas.Simd.{length-chunk}
use Rattle.std.proofs.lemmas.List.{take-append-le, take_all, drop-append-le, drop_all}
use Rattle.std.specs.Simd.Lanes.{chunk}

-- n lanes
abbrev pub lanes : ℕ → (ℕ → ℕ) → List ℕ
lanes zero lane = []
lanes (suc n) lane = lane 0 ∷ lanes n (λ k. lane (suc k))

-- a list of n is n lanes
pub in_lanes : (n : ℕ) (v : List ℕ) → length v ≡ n → v ≡ lanes n (λ k. get_or v k 0)
in_lanes zero [] e = refl
in_lanes zero (x ∷ v) e = absurd (omega arith)
in_lanes (suc n) [] e = absurd (omega arith)
in_lanes (suc n) (x ∷ v) e = ap (λ rest. x ∷ rest) (in_lanes n v (omega arith))

-- a half byte
abbrev pub IsHalf : ℕ → Type 0
IsHalf value = value < 16

take_nothing : (n : ℕ) → take {A = ℕ} n [] ≡ []
take_nothing zero = refl
take_nothing (suc n) = refl

-- the lanes that follow the first ones
pub take_chunk : (i n m : ℕ) (s : List ℕ) → m ≡ i + n → take m s ≡ take i s ++ chunk i n s
take_chunk zero n m s e = let same : m ≡ n = omega arith in ap (λ k. take k s) same
take_chunk (suc i) n zero s e = absurd (omega arith)
take_chunk (suc i) n (suc m) [] e = sym (take_nothing n)
take_chunk (suc i) n (suc m) (x ∷ s) e = ap (λ rest. x ∷ rest) (take_chunk i n m s (omega arith))

-- lanes in two parts
pub two_chunks : (i n m j t : ℕ) (s : List ℕ) → j ≡ i + n → t ≡ n + m → chunk i t s ≡ chunk i n s ++ chunk j m s
two_chunks zero n m j t s there all = let same : j ≡ n = omega (arith, there) in rw same (take_chunk n m t s all)
two_chunks (suc i) n m zero t s there all = absurd (omega (arith, there))
two_chunks (suc i) n m (suc j) t [] there all = rw (take_nothing t, take_nothing n, take_nothing m) refl
two_chunks (suc i) n m (suc j) t (x ∷ s) there all = two_chunks i n m j t s (omega (arith, there)) all

-- each of the two parts
pub first_chunk : (i n m j t : ℕ) (s : List ℕ) → j ≡ i + n → t ≡ n + m → j ≤ length s → take n (chunk i t s) ≡ chunk i n s
first_chunk i n m j t s there all fits =
    let long : length (chunk i n s) ≡ n = length-chunk i n s (omega (arith, there, fits)) in
    rw (two_chunks i n m j t s there all, take-append-le n (chunk i n s) (chunk j m s) (omega (arith, long))) (take_all n (chunk i n s) (omega (arith, long)))

pub second_chunk : (i n m j t : ℕ) (s : List ℕ) → j ≡ i + n → t ≡ n + m → j ≤ length s → drop n (chunk i t s) ≡ chunk j m s
second_chunk i n m j t s there all fits =
    let long : length (chunk i n s) ≡ n = length-chunk i n s (omega (arith, there, fits)) in
    rw (two_chunks i n m j t s there all, drop-append-le n (chunk i n s) (chunk j m s) (omega (arith, long)), drop_all n (chunk i n s) (omega (arith, long))) refl
