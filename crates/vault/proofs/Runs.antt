-- How a run of a vault's calls goes on.
use Rattle.std.proofs.Common.{inl, inr, ⊎_elim, ℕ, arith}
use Rattle.vault.specs.declared.store.Stop.{Stop}
use Rattle.vault.specs.Images.{Image}
use Rattle.vault.specs.Moments.{Elapses, LeavesOnly}

module _ {V : Type 0} (moment : V → ℕ) (left_since : V → Stop → ℕ → Image → Type 0) (stop : Stop) where
  -- before the first call
  pub started : (old : V) (P : Image → Type 0) → ((i : Image) → left_since old stop (moment old) i → P i) → LeavesOnly moment left_since stop old old P
  started old P here = record { later = omega arith; each = here; before = λ t i le left. inl left }

  -- one call more, during which a stop leaves what has P
  pub goes_on : (old mid new : V) (P during leaves : Image → Type 0) → LeavesOnly moment left_since stop old mid P
      → Elapses (moment mid) (moment new) (left_since mid stop) (left_since new stop) during leaves
      → ((i : Image) → during i → P i) → LeavesOnly moment left_since stop old new P
  goes_on old mid new P during leaves so_far time here = record {
    later = omega (arith, so_far.later, time.later);
    each = λ i left. ⊎_elim (so_far.each i) (here i) (time.nothing_else (moment old) i so_far.later left);
    before = λ t i le left. ⊎_elim (so_far.before t i le) (λ now. inr (here i now)) (time.nothing_else t i (omega (arith, le, so_far.later)) left);
  }

  -- one call alone
  pub one_call : (old new : V) (P may_leave during leaves : Image → Type 0) → ((i : Image) → left_since old stop (moment old) i → may_leave i)
      → Elapses (moment old) (moment new) (left_since old stop) (left_since new stop) during leaves
      → ((i : Image) → may_leave i → P i) → ((i : Image) → during i → P i) → LeavesOnly moment left_since stop old new P
  one_call old new P may_leave during leaves now time first here = goes_on old old new P during leaves (started old P (λ i left. first i (now i left))) time here

  -- two runs, one after the other
  pub both_runs : (old mid new : V) (P Q R : Image → Type 0) → LeavesOnly moment left_since stop old mid P → LeavesOnly moment left_since stop mid new Q
      → ((i : Image) → P i → R i) → ((i : Image) → Q i → R i) → LeavesOnly moment left_since stop old new R
  both_runs old mid new P Q R first second p q = record {
    later = omega (arith, first.later, second.later);
    each = λ i left. ⊎_elim (λ was. p i (first.each i was)) (q i) (second.before (moment old) i first.later left);
    before = λ t i le left. ⊎_elim (λ was. ⊎_elim (λ l. inl l) (λ h. inr (p i h)) (first.before t i le was)) (λ h. inr (q i h)) (second.before t i (omega (arith, le, first.later)) left);
  }

  -- the same of a weaker fact
  pub weaker : (old new : V) (P Q : Image → Type 0) → LeavesOnly moment left_since stop old new P → ((i : Image) → P i → Q i) → LeavesOnly moment left_since stop old new Q
  weaker old new P Q run to = record {
    later = run.later;
    each = λ i left. to i (run.each i left);
    before = λ t i le left. ⊎_elim (λ l. inl l) (λ h. inr (to i h)) (run.before t i le left);
  }
