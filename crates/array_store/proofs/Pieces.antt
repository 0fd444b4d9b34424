-- Pieces of blocks, and where their bytes lie on the disk.
use Rattle.std.proofs.Common.{◌≡◌, ◌⊎◌, inl, inr, ℕ, ◌+◌, ◌-◌, ◌*◌, ◌/◌, ◌%◌, ◌<◌, ◌≤◌, List, length, replicate, slice_index, sym, ap, ◌∙◌, subst, arith, Result, Ok, Err}
use Rattle.std.specs.Prelude.{OnOk}
use Rattle.std.proofs.lemmas.List.{length-replicate}
use Rattle.std.proofs.Math.Nat.{div-lt_iff_lt-mul, mod-lt}
use Rattle.std.proofs.lemmas.Nat.{div-mul-add, div-add-mod'}
use Rattle.std.proofs.lemmas.Bool.{cases_lt}
use Rattle.byte_store.specs.Flat.{written_over}
use Rattle.array_store.specs.Blocks.{IsBlockOf, IsPiece, IsPut}
use Rattle.array_store.proofs.Over.{over_long, over_before, over_here, over_after}

-- an offset below that of the blocks' end lies in one of them
pub block_inside : (offset size blocks : ℕ) → 0 < size → offset < blocks * size → offset / size < blocks
block_inside offset size blocks some below = (div-lt_iff_lt-mul some).1 below

-- the block of a byte, and its place there
pub block_is : (size b j : ℕ) → j < size → (b * size + j) / size ≡ b
block_is size b j below = div-mul-add b size j below

pub place_is : (size b j : ℕ) → j < size → (b * size + j) % size ≡ j
place_is size b j below =
    let block = block_is size b j below in
    let whole = div-add-mod' (b * size + j) size in
    let same : (b * size + j) / size * size ≡ b * size = ap (λ q. q * size) block in
    omega arith

-- a byte by its block and its place
pub byte_is : (size b i : ℕ) → 0 < size → i / size ≡ b → (i ≡ b * size + i % size) × (i % size < size)
byte_is size b i some is =
    let whole = div-add-mod' i size in
    let same : i / size * size ≡ b * size = ap (λ q. q * size) is in (omega arith, mod-lt i some)

-- a byte between the ends of a block lies in it
pub lies_in : (size b i : ℕ) → b * size ≤ i → i < b * size + size → i / size ≡ b
lies_in size b i from below =
    let j : i ≡ b * size + (i - b * size) = omega arith in
    let less : i - b * size < size = omega arith in
    ap (λ n. n / size) j ∙ block_is size b (i - b * size) less

-- a piece that is read from a block
pub piece_read : (size b from : ℕ) (bytes block out : List ℕ) → IsBlockOf size bytes b block → from + length out ≤ size
    → b * size + from + length out ≤ length bytes → ((k : ℕ) → k < length out → slice_index out k ≡ slice_index block (from + k))
    → IsPiece bytes (b * size + from) out
piece_read size b from bytes block out is fits within copied = record {
  each = λ k below.
      let inside : from + k < size = omega arith in
      let low : b * size + (from + k) < length bytes = omega arith in
      let at : b * size + (from + k) ≡ b * size + from + k = omega arith in
      copied k below ∙ (ap (slice_index block) (sym (place_is size b (from + k) inside))
      ∙ (is.each (b * size + (from + k)) low (block_is size b (from + k) inside) ∙ ap (slice_index bytes) at));
}

-- a part of a block that is overlaid
pub patch_put : (size b from : ℕ) (bytes block part : List ℕ) → 0 < size → IsBlockOf size bytes b block → length block ≡ size
    → from + length part ≤ size → b * size + from + length part ≤ length bytes
    → IsPut size bytes b (written_over block from part) (written_over bytes (b * size + from) part)
patch_put size b from bytes block part some is long fits within = record {
  long = over_long bytes (b * size + from) part within;
  here = λ i below e. here i below e (byte_is size b i some e);
  others = λ i below ne. others i ne (cases_lt i (b * size + from)) (cases_lt i (b * size + from + length part));
}
  where
    inside : from + length part ≤ length block
    inside = omega arith

    here : (i : ℕ) → i < length bytes → i / size ≡ b → (i ≡ b * size + i % size) × (i % size < size)
        → slice_index (written_over bytes (b * size + from) part) i ≡ slice_index (written_over block from part) (i % size)
    here i below e at = go (cases_lt (i % size) from) (cases_lt (i % size) (from + length part))
      where
        is_at : i ≡ b * size + i % size
        is_at = at.0

        go : (i % size < from) ⊎ (from ≤ i % size) → (i % size < from + length part) ⊎ (from + length part ≤ i % size)
            → slice_index (written_over bytes (b * size + from) part) i ≡ slice_index (written_over block from part) (i % size)
        go (inl low) _ =
            let lower : i < b * size + from = omega (arith, is_at, low) in
            over_before bytes (b * size + from) part i within lower ∙ (sym (is.each i below e) ∙ sym (over_before block from part (i % size) inside low))
        go (inr high) (inl low) =
            let higher : b * size + from ≤ i = omega (arith, is_at, high) in
            let lower : i < b * size + from + length part = omega (arith, is_at, low) in
            let same : i - (b * size + from) ≡ i % size - from = omega (arith, is_at, high) in
            over_here bytes (b * size + from) part i within higher lower ∙ (ap (slice_index part) same
            ∙ sym (over_here block from part (i % size) inside high low))
        go (inr _) (inr high) =
            let higher : b * size + from + length part ≤ i = omega (arith, is_at, high) in
            over_after bytes (b * size + from) part i within higher ∙ (sym (is.each i below e) ∙ sym (over_after block from part (i % size) inside high))

    others : (i : ℕ) → (i / size ≡ b → ⊥) → (i < b * size + from) ⊎ (b * size + from ≤ i) → (i < b * size + from + length part) ⊎ (b * size + from + length part ≤ i)
        → slice_index (written_over bytes (b * size + from) part) i ≡ slice_index bytes i
    others i ne (inl low) _ = over_before bytes (b * size + from) part i within low
    others i ne (inr high) (inl low) =
        let from_block : b * size ≤ i = omega arith in
        let in_block : i < b * size + size = omega arith in
        absurd (ne (lies_in size b i from_block in_block))
    others i ne (inr _) (inr high) = over_after bytes (b * size + from) part i within high

-- a whole block that is written
pub whole_put : (size b from : ℕ) (bytes part : List ℕ) → 0 < size → length part ≡ size → from ≡ 0 → b * size + from + length part ≤ length bytes
    → IsPut size bytes b part (written_over bytes (b * size + from) part)
whole_put size b from bytes part some long start within = record {
  long = over_long bytes (b * size + from) part within;
  here = λ i below e. here i (byte_is size b i some e);
  others = λ i below ne. others i ne (cases_lt i (b * size + from)) (cases_lt i (b * size + from + length part));
}
  where
    here : (i : ℕ) → (i ≡ b * size + i % size) × (i % size < size)
        → slice_index (written_over bytes (b * size + from) part) i ≡ slice_index part (i % size)
    here i at =
        let is_at = at.0 in
        let less = at.1 in
        let higher : b * size + from ≤ i = omega (arith, is_at, start) in
        let lower : i < b * size + from + length part = omega (arith, is_at, start, less, long) in
        let same : i - (b * size + from) ≡ i % size = omega (arith, is_at, start) in
        over_here bytes (b * size + from) part i within higher lower ∙ ap (slice_index part) same

    others : (i : ℕ) → (i / size ≡ b → ⊥) → (i < b * size + from) ⊎ (b * size + from ≤ i) → (i < b * size + from + length part) ⊎ (b * size + from + length part ≤ i)
        → slice_index (written_over bytes (b * size + from) part) i ≡ slice_index bytes i
    others i ne (inl low) _ = over_before bytes (b * size + from) part i within low
    others i ne (inr high) (inl low) =
        let from_block : b * size ≤ i = omega arith in
        let in_block : i < b * size + size = omega arith in
        absurd (ne (lies_in size b i from_block in_block))
    others i ne (inr _) (inr high) = over_after bytes (b * size + from) part i within high

-- a whole block that is made zero
pub zero_put : (size b from count : ℕ) (bytes : List ℕ) → 0 < size → count ≡ size → from ≡ 0 → b * size + from + count ≤ length bytes
    → IsPut size bytes b (replicate size 0) (written_over bytes (b * size + from) (replicate count 0))
zero_put size b from count bytes some same start within =
    let long : length (replicate size 0) ≡ size = length-replicate size 0 in
    let fits : b * size + from + length (replicate size 0) ≤ length bytes = omega (arith, long, same, within) in
    subst (λ n. IsPut size bytes b (replicate size 0) (written_over bytes (b * size + from) (replicate n 0))) (sym same)
    (whole_put size b from bytes (replicate size 0) some long start fits)

-- what follows of an outcome that is Ok
pub on_ok : {X E : Type 0} {P Q : Type 0} (r : Result X E) → (P → Q) → OnOk r P → OnOk r Q
on_ok (Ok x) f p = f p
on_ok (Err e) f p = tt
