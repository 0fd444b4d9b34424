-- Slots that may be free, and the lowest of them that is.
use Rattle.std.proofs.Common.{◌≡◌, ◌⊎◌, inl, inr, ℕ, ◌+◌, ◌/◌, ◌<◌, arith, List}
use Rattle.std.proofs.lemmas.Bool.{cases_eq}
use Rattle.tiered_array.specs.Bits.{AreAmong}
use Rattle.tiered_array.specs.Hints.{IsHinted, IsSought, InRows}

-- one search after another is one search
pub sought_on : (was is now : List ℕ) (free : ℕ → Type 0) → IsSought was is free → IsSought is now free → IsSought was now free
sought_on was is now free first second = record {
  less = λ s has. first.less s (second.less s has);
  keeps = λ s has ok. second.keeps s (first.keeps s has ok) ok;
}

-- none under the words so far, nor under the next
pub words_more : (was is : List ℕ) (word : ℕ) → AreAmong is was → ((s : ℕ) → s / 64 / 64 < word → IsHinted was s → ⊥) → ((s : ℕ) → InRows word s → IsHinted is s → ⊥)
    → (s : ℕ) → s / 64 / 64 < word + 1 → IsHinted is s → ⊥
words_more was is word among below none s low has = go (cases_eq (s / 64 / 64) word)
  where
    go : (s / 64 / 64 ≡ word) ⊎ (s / 64 / 64 ≡ word → ⊥) → ⊥
    go (inl same) = none s same has
    go (inr other) = below s (omega (arith, low, other)) (among s has)
