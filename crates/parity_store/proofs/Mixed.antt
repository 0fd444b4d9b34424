-- Bytes of which the first i are the exclusive or already.
use Rattle.std.proofs.Common.{◌≡◌, ℕ, zero, suc, ◌+◌, ◌<◌, ◌≤◌, List, [], ◌∷◌, length, refl, sym, ◌∙◌, ap, arith, get_or, set, take}
use Rattle.std.specs.Prelude.{bit_xor}
use Rattle.std.specs.Simd.Lanes.{zip2, chunk, put_chunk}
use Rattle.extent_groups.specs.Units.{plus}

abbrev pub mixed : ℕ → List ℕ → List ℕ → List ℕ
mixed zero old from = old
mixed (suc i) [] from = []
mixed (suc i) (x ∷ old) [] = x ∷ old
mixed (suc i) (x ∷ old) (y ∷ from) = bit_xor x y ∷ mixed i old from

-- one byte more
pub mixed_more : (i j : ℕ) (old from : List ℕ) → j ≡ i + 1 → i < length old → length old ≡ length from
    → set (mixed i old from) i (bit_xor (get_or (mixed i old from) i 0) (get_or from i 0)) ≡ mixed j old from
mixed_more i zero old from e h same = absurd (omega arith)
mixed_more i (suc j) [] from e h same = absurd (omega arith)
mixed_more i (suc j) (x ∷ old) [] e h same = absurd (omega arith)
mixed_more zero (suc j) (x ∷ old) (y ∷ from) e h same = let none : j ≡ 0 = omega arith in ap (λ k. bit_xor x y ∷ mixed k old from) (sym none)
mixed_more (suc i) (suc j) (x ∷ old) (y ∷ from) e h same = ap (λ t. bit_xor x y ∷ t) (mixed_more i j old from (omega arith) (omega arith) (omega arith))

-- one vector more
first_block : (n : ℕ) (old from : List ℕ) → n ≤ length old → length old ≡ length from → put_chunk 0 old (zip2 bit_xor (take n old) (take n from)) ≡ mixed n old from
first_block zero [] from h same = refl
first_block zero (x ∷ old) from h same = refl
first_block (suc n) [] from h same = absurd (omega arith)
first_block (suc n) (x ∷ old) [] h same = absurd (omega arith)
first_block (suc n) (x ∷ old) (y ∷ from) h same = ap (λ t. bit_xor x y ∷ t) (first_block n old from (omega arith) (omega arith))

pub mixed_block : (i j n : ℕ) (old from : List ℕ) → j ≡ i + n → j ≤ length old → length old ≡ length from
    → put_chunk i (mixed i old from) (zip2 bit_xor (chunk i n (mixed i old from)) (chunk i n from)) ≡ mixed j old from
mixed_block zero j n old from e h same = let is : n ≡ j = omega arith in first_block n old from (omega arith) same ∙ ap (λ k. mixed k old from) is
mixed_block (suc i) zero n old from e h same = absurd (omega arith)
mixed_block (suc i) (suc j) n [] from e h same = absurd (omega arith)
mixed_block (suc i) (suc j) n (x ∷ old) [] e h same = absurd (omega arith)
mixed_block (suc i) (suc j) n (x ∷ old) (y ∷ from) e h same = ap (λ t. bit_xor x y ∷ t) (mixed_block i j n old from (omega arith) (omega arith) (omega arith))

-- all bytes
pub mixed_all : (i : ℕ) (old from : List ℕ) → i ≡ length old → length old ≡ length from → mixed i old from ≡ plus old from
mixed_all zero [] from e same = refl
mixed_all zero (x ∷ old) from e same = absurd (omega arith)
mixed_all (suc i) [] from e same = absurd (omega arith)
mixed_all (suc i) (x ∷ old) [] e same = absurd (omega arith)
mixed_all (suc i) (x ∷ old) (y ∷ from) e same = ap (λ t. bit_xor x y ∷ t) (mixed_all i old from (omega arith) (omega arith))

-- a vector of two runs' exclusive or
front_plus : (n : ℕ) (u v : List ℕ) → length u ≡ length v → zip2 bit_xor (take n u) (take n v) ≡ take n (plus u v)
front_plus zero [] [] same = refl
front_plus zero [] (y ∷ v) same = absurd (omega arith)
front_plus zero (x ∷ u) [] same = absurd (omega arith)
front_plus zero (x ∷ u) (y ∷ v) same = refl
front_plus (suc n) [] [] same = refl
front_plus (suc n) [] (y ∷ v) same = absurd (omega arith)
front_plus (suc n) (x ∷ u) [] same = absurd (omega arith)
front_plus (suc n) (x ∷ u) (y ∷ v) same = ap (λ t. bit_xor x y ∷ t) (front_plus n u v (omega arith))

pub chunk_plus : (i n : ℕ) (u v : List ℕ) → length u ≡ length v → zip2 bit_xor (chunk i n u) (chunk i n v) ≡ chunk i n (plus u v)
chunk_plus zero n u v same = front_plus n u v same
chunk_plus (suc i) n [] [] same = front_plus n [] [] refl
chunk_plus (suc i) n [] (y ∷ v) same = absurd (omega arith)
chunk_plus (suc i) n (x ∷ u) [] same = absurd (omega arith)
chunk_plus (suc i) n (x ∷ u) (y ∷ v) same = chunk_plus i n u v (omega arith)
