-- Bits are set in words and cleared.
use Rattle.std.proofs.Common.{◌≡◌, ◌⊎◌, inl, inr, ℕ, ◌*◌, ◌-◌, ◌≤◌, ◌/◌, ◌%◌, ◌^◌, ◌<◌, arith, List, length, replicate, slice_set, get_or, get_or-set_same, get_or-set_other, bit_and, bit_or, ap, sym, ◌∙◌, subst, w64}
use Rattle.std.proofs.lemmas.Bool.{cases_eq, cases_lt}
use Rattle.std.proofs.lemmas.List.{get_or_past, get_or-replicate}
use Rattle.std.proofs.lemmas.Nat.{and_le_l}
use Rattle.std.proofs.lemmas.Nat.Bits.{bit_at-zero, bit_at_ones, bit_at_set_same, bit_at_set_other, bit_at_clear_same, bit_at_clear_other}
use Rattle.std.specs.Int.{bit_at, bit_not}
use Rattle.tiered_array.specs.Bits.{HasBit, HasBitAt, IsBitSet, IsBitCleared}

-- a word with a bit set, and with it cleared
abbrev pub with_bit : ℕ → ℕ → ℕ
with_bit word bit = bit_or word (1 * 2 ^ bit % 2 ^ 64)

abbrev pub without_bit : ℕ → ℕ → ℕ
without_bit word bit = bit_and word (bit_not w64 (1 * 2 ^ bit % 2 ^ 64))

-- a word that is 0 has no bit
pub none_of_zero : (word bit : ℕ) → word ≡ 0 → HasBit word bit → ⊥
none_of_zero word bit zero has =
    let both : 1 ≡ 0 = sym has ∙ ap (λ w. bit_at w bit) zero ∙ bit_at-zero bit in absurd (omega (arith, both))

-- a table has no bits past its words, and each bit where all its words are full
pub within : (words : List ℕ) (n : ℕ) → HasBitAt words n → n < 64 * length words
within words n has = go (cases_lt (n / 64) (length words))
  where
    go : (n / 64 < length words) ⊎ (length words ≤ n / 64) → n < 64 * length words
    go (inr past) = absurd (none_of_zero (get_or words (n / 64) 0) (n % 64) (get_or_past words (n / 64) 0 past) has)
    go (inl low) = omega (arith, low)

pub full : (words : List ℕ) (count n : ℕ) → words ≡ replicate count (2 ^ 64 - 1) → n < 64 * count → HasBitAt words n
full words count n all low =
    ap (λ ws. bit_at (get_or ws (n / 64) 0) (n % 64)) all
    ∙ ap (λ w. bit_at w (n % 64)) (get_or-replicate count (n / 64) (2 ^ 64 - 1) 0 (omega (arith, low)))
    ∙ bit_at_ones 64 (n % 64) (omega arith)

module _ (words : List ℕ) (at : ℕ) (inside : at < 64 * length words) where
  abbrev pub was : ℕ
  was = get_or words (at / 64) 0

  -- what the table has at the bit where its word is another
  here_is : (word : ℕ) → bit_at (get_or (slice_set words (at / 64) word) (at / 64) 0) (at % 64) ≡ bit_at word (at % 64)
  here_is word = ap (λ w. bit_at w (at % 64)) (get_or-set_same words (at / 64) word 0 (omega (arith, inside)))

  -- the other bits stay where those of that word do
  others_stay : (word : ℕ) → ((k : ℕ) → k < 64 → (k ≡ at % 64 → ⊥) → bit_at word k ≡ bit_at was k)
      → (n : ℕ) → (n ≡ at → ⊥) → bit_at (get_or (slice_set words (at / 64) word) (n / 64) 0) (n % 64) ≡ bit_at (get_or words (n / 64) 0) (n % 64)
  others_stay word same n other = go (cases_eq (n / 64) (at / 64))
    where
      go : (n / 64 ≡ at / 64) ⊎ (n / 64 ≡ at / 64 → ⊥)
          → bit_at (get_or (slice_set words (at / 64) word) (n / 64) 0) (n % 64) ≡ bit_at (get_or words (n / 64) 0) (n % 64)
      go (inl row) =
          let apart : n % 64 ≡ at % 64 → ⊥ = λ bit. other (omega (arith, row, bit)) in
          ap (λ r. bit_at (get_or (slice_set words (at / 64) word) r 0) (n % 64)) row
          ∙ ap (λ w. bit_at w (n % 64)) (get_or-set_same words (at / 64) word 0 (omega (arith, inside)))
          ∙ same (n % 64) (omega arith) apart ∙ sym (ap (λ r. bit_at (get_or words r 0) (n % 64)) row)
      go (inr row) = ap (λ w. bit_at w (n % 64)) (get_or-set_other words (at / 64) (n / 64) word 0 row)

  -- a bit is set
  pub put_at : IsBitSet words (slice_set words (at / 64) (with_bit was (at % 64))) at
  put_at = record {
    here = here;
    keeps = λ n has. keeps n has (cases_eq n at);
    only = λ n has. only n has (cases_eq n at);
  }
    where
      is : List ℕ
      is = slice_set words (at / 64) (with_bit was (at % 64))

      stays : (n : ℕ) → (n ≡ at → ⊥) → bit_at (get_or is (n / 64) 0) (n % 64) ≡ bit_at (get_or words (n / 64) 0) (n % 64)
      stays = others_stay (with_bit was (at % 64)) (λ k low other. bit_at_set_other w64 was (at % 64) (omega arith) k other)

      here : HasBitAt is at
      here = here_is (with_bit was (at % 64)) ∙ bit_at_set_same w64 was (at % 64) (omega arith)

      keeps : (n : ℕ) → HasBitAt words n → (n ≡ at) ⊎ (n ≡ at → ⊥) → HasBitAt is n
      keeps n has (inl same) = subst (HasBitAt is) (sym same) here
      keeps n has (inr other) = stays n other ∙ has

      only : (n : ℕ) → HasBitAt is n → (n ≡ at) ⊎ (n ≡ at → ⊥) → (n ≡ at) ⊎ HasBitAt words n
      only n has (inl same) = inl same
      only n has (inr other) = inr (sym (stays n other) ∙ has)

  -- a bit is cleared
  pub take_at : IsBitCleared words (slice_set words (at / 64) (without_bit was (at % 64))) at
  take_at = record {
    gone = gone;
    fewer = λ n has. fewer n has (cases_eq n at);
    others = λ n other has. stays n other ∙ has;
  }
    where
      is : List ℕ
      is = slice_set words (at / 64) (without_bit was (at % 64))

      stays : (n : ℕ) → (n ≡ at → ⊥) → bit_at (get_or is (n / 64) 0) (n % 64) ≡ bit_at (get_or words (n / 64) 0) (n % 64)
      stays = others_stay (without_bit was (at % 64)) (λ k low other. bit_at_clear_other w64 was (at % 64) (omega arith) k low other)

      gone : HasBitAt is at → ⊥
      gone has =
          let zero = here_is (without_bit was (at % 64)) ∙ bit_at_clear_same w64 was (at % 64) (omega arith) in
          let both : 1 ≡ 0 = sym has ∙ zero in absurd (omega (arith, both))

      fewer : (n : ℕ) → HasBitAt is n → (n ≡ at) ⊎ (n ≡ at → ⊥) → HasBitAt words n
      fewer n has (inl same) = absurd (gone (subst (HasBitAt is) same has))
      fewer n has (inr other) = sym (stays n other) ∙ has

  -- and its word becomes smaller
  pub falls : HasBitAt words at → get_or (slice_set words (at / 64) (without_bit was (at % 64))) (at / 64) 0 < was
  falls has = go (cases_eq (without_bit was (at % 64)) was)
    where
      set : get_or (slice_set words (at / 64) (without_bit was (at % 64))) (at / 64) 0 ≡ without_bit was (at % 64)
      set = get_or-set_same words (at / 64) (without_bit was (at % 64)) 0 (omega (arith, inside))

      go : (without_bit was (at % 64) ≡ was) ⊎ (without_bit was (at % 64) ≡ was → ⊥) → get_or (slice_set words (at / 64) (without_bit was (at % 64))) (at / 64) 0 < was
      go (inl same) =
          let gone : bit_at (without_bit was (at % 64)) (at % 64) ≡ 0 = bit_at_clear_same w64 was (at % 64) (omega arith) in
          let both : 1 ≡ 0 = sym has ∙ sym (ap (λ w. bit_at w (at % 64)) same) ∙ gone in absurd (omega (arith, both))
      go (inr other) = omega (arith, set, other, and_le_l was (bit_not w64 (1 * 2 ^ (at % 64) % 2 ^ 64)))
