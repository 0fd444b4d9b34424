-- The best of the groups that were looked at, group by group and row by row.
use Rattle.std.proofs.Common.{◌≡◌, ◌≢◌, ◌∙◌, ◌⊎◌, inl, inr, ℕ, ◌+◌, ◌-◌, ◌*◌, ◌<◌, ◌≤◌, sym, ap, arith, List, slice_index, Option, Some}
use Rattle.std.proofs.lemmas.Bool.{cases_lt}
use Rattle.std.proofs.lemmas.Simd.{Each1-get_or}
use Rattle.std.specs.Simd.Lanes.{Each1}
use Rattle.cleaner.specs.declared.choice.Ranked.{Ranked}
use Rattle.cleaner.specs.Choosing.{IsFewest, IsMost, IsRankRow, IsNoBetter, IsChoice, IsBestTo}

module _ (rank : ℕ → ℕ) (left_out : Option ℕ) where
  no_more : (group value other : ℕ) → rank other ≤ value → group ≤ other → IsNoBetter rank group value other
  no_more group value other le first = by (cases_lt (rank other) value)
    where
      by : (rank other < value) ⊎ (value ≤ rank other) → IsNoBetter rank group value other
      by (inl l) = inl l
      by (inr m) = inr (omega (arith, le, m), first)

  -- a row in which no group is better
  pub best_row : (row group value : ℕ) (lanes : List ℕ) → IsRankRow rank row lanes → Each1 (λ lane. lane ≤ value) lanes
      → IsBestTo rank left_out (16 * row) group value → IsBestTo rank left_out (16 * (row + 1)) group value
  best_row row group value lanes are within h = record {
    below = λ l. omega (arith, h.below l);
    other = h.other;
    is = h.is;
    first = omega (arith, h.first);
    best = λ other l o. by other o l (cases_lt other (16 * row));
  }
    where
      by : (other : ℕ) → left_out ≢ Some other → other < 16 * (row + 1) → (other < 16 * row) ⊎ (16 * row ≤ other) → IsNoBetter rank group value other
      by other o l (inl m) = h.best other m o
      by other o l (inr m) =
          let lane : other - 16 * row < 16 = omega (arith, l, m) in
          let is : slice_index lanes (other - 16 * row) ≡ rank other = are.each (other - 16 * row) lane ∙ ap rank (omega (arith, m)) in
          let le : slice_index lanes (other - 16 * row) ≤ value =
          Each1-get_or (λ lane. lane ≤ value) lanes (other - 16 * row) 0 (omega (arith, lane, are.many)) within in
          no_more group value other (omega (arith, is, le)) (omega (arith, h.first, m))

  -- the groups below a bound, and the bound's own
  last_of : (bound other : ℕ) → other < bound + 1 → (other < bound) ⊎ (other ≡ bound)
  last_of bound other l = by (cases_lt other bound)
    where
      by : (other < bound) ⊎ (bound ≤ other) → (other < bound) ⊎ (other ≡ bound)
      by (inl m) = inl m
      by (inr m) = inr (omega (arith, l, m))

  pub chosen : (best : Ranked) → (best.rank ≡ 0 → ⊥) → IsBestTo rank left_out 512 best.group best.rank → IsChoice rank left_out (Some best)
  chosen best some h = by (cases_lt 0 best.rank)
    where
      by : (0 < best.rank) ⊎ (best.rank ≤ 0) → IsChoice rank left_out (Some best)
      by (inl l) = record { low = h.below l; other = h.other l; is = h.is l; some = l; best = h.best }
      by (inr m) = absurd (some (omega (arith, m)))

-- ---- there is one best

one_best : (R : ℕ → ℕ → Type 0) → ((a b : ℕ) → R a b → (R b a) ⊎ (a ≡ b) → ⊥) → (g m h n : ℕ)
    → (R m n) ⊎ ((m ≡ n) × (g ≤ h)) → (R n m) ⊎ ((n ≡ m) × (h ≤ g)) → (g ≡ h) × (m ≡ n)
one_best R apart g m h n (inl a) (inl b) = absurd (apart m n a (inl b))
one_best R apart g m h n (inl a) (inr b) = absurd (apart m n a (inr (sym b.0)))
one_best R apart g m h n (inr a) (inl b) = absurd (apart n m b (inr (sym a.0)))
one_best R apart g m h n (inr a) (inr b) = (omega (arith, a.1, b.1), a.0)

module _ (offers : ℕ → ℕ → Type 0) where
  pub fewest_once : (g m h n : ℕ) → IsFewest offers g m → IsFewest offers h n → (g ≡ h) × (m ≡ n)
  fewest_once g m h n one other = one_best (λ a b. a < b) apart g m h n (one.best h n other.offered) (other.best g m one.offered)
    where
      apart : (a b : ℕ) → a < b → (b < a) ⊎ (a ≡ b) → ⊥
      apart a b l (inl m) = absurd (omega (arith, l, m))
      apart a b l (inr e) = absurd (omega (arith, l, e))

  pub most_once : (g m h n : ℕ) → IsMost offers g m → IsMost offers h n → (g ≡ h) × (m ≡ n)
  most_once g m h n one other = one_best (λ a b. b < a) apart g m h n (one.best h n other.offered) (other.best g m one.offered)
    where
      apart : (a b : ℕ) → b < a → (a < b) ⊎ (a ≡ b) → ⊥
      apart a b l (inl m) = absurd (omega (arith, l, m))
      apart a b l (inr e) = absurd (omega (arith, l, e))
