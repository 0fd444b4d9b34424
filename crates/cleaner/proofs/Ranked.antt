-- What the ranks say of the groups that a plan chooses from.
use Rattle.std.proofs.Common.{◌≡◌, ◌≢◌, ◌⊎◌, inl, inr, ℕ, zero, suc, ◌+◌, ◌<◌, ◌≤◌, ◌^◌, sym, subst, arith, Option, Some, None}
use Rattle.cleaner.specs.declared.choice.Ranked.{Ranked}
use Rattle.cleaner.specs.Choosing.{IsFewest, IsMost, IsNoBetter, IsChoice}
use Rattle.cleaner.specs.Offered.{inverted_rank}

-- a group that is offered has its count, at least 1
pub record IsCounted (left_out : Option ℕ) (count : ℕ → ℕ) (group live : ℕ) : Type 0 where
  pub low : group < 512
  pub other : left_out ≢ Some group
  pub is : count group ≡ live
  pub some : 0 < live
  pub fits : live < 2 ^ 16

-- the groups with a count are those that are offered
pub record AreCounted (offers : ℕ → ℕ → Type 0) (left_out : Option ℕ) (count : ℕ → ℕ) : Type 0 where
  pub to : (group : ℕ) → group < 512 → left_out ≢ Some group → 0 < count group → offers group (count group)
  pub from : (group live : ℕ) → offers group live → IsCounted left_out count group live

-- a count and its turned rank
turned_some : (n : ℕ) → 0 < inverted_rank n → 0 < n
turned_some zero l = absurd (omega (arith, l))
turned_some (suc n) l = omega arith

turned_sum : (n : ℕ) → 0 < n → n < 2 ^ 16 → inverted_rank n + n ≡ 2 ^ 16
turned_sum n some fits = omega (arith, some, fits)

module _ (offers : ℕ → ℕ → Type 0) (left_out : Option ℕ) (count : ℕ → ℕ) (are : AreCounted offers left_out count) where
  pub none_most : IsChoice count left_out None → (group live : ℕ) → offers group live → ⊥
  none_most none group live offered =
      let is = are.from group live offered in
      absurd (omega (arith, is.is, is.some, none group is.low is.other))

  pub is_most : (best : Ranked) → IsChoice count left_out (Some best) → IsMost offers best.group best.rank
  is_most best h = record {
    offered = subst (offers best.group) h.is (are.to best.group h.low h.other (omega (arith, h.is, h.some)));
    best = λ other live offered.
        let is = are.from other live offered in
        by other live is.is (h.best other is.low is.other);
  }
    where
      by : (other live : ℕ) → count other ≡ live → IsNoBetter count best.group best.rank other → (live < best.rank) ⊎ ((best.rank ≡ live) × (best.group ≤ other))
      by other live is (inl l) = inl (omega (arith, is, l))
      by other live is (inr e) = inr (omega (arith, is, e.0), e.1)

  pub none_fewest : IsChoice (λ g. inverted_rank (count g)) left_out None → (group live : ℕ) → offers group live → ⊥
  none_fewest none group live offered =
      let is = are.from group live offered in
      let zeroed : inverted_rank live ≡ 0 = subst (λ n. inverted_rank n ≡ 0) is.is (none group is.low is.other) in
      absurd (omega (arith, zeroed, turned_sum live is.some is.fits, is.fits))

  pub is_fewest : (best : Ranked) → IsChoice (λ g. inverted_rank (count g)) left_out (Some best) → IsFewest offers best.group (count best.group)
  is_fewest best h = record {
    offered = here;
    best = λ other live offered.
        let is = are.from other live offered in
        by other live is (subst (λ n. (inverted_rank n < best.rank) ⊎ ((inverted_rank n ≡ best.rank) × (best.group ≤ other))) is.is (h.best other is.low is.other));
  }
    where
      some : 0 < count best.group
      some = turned_some (count best.group) (subst (λ n. 0 < n) (sym h.is) h.some)

      here : offers best.group (count best.group)
      here = are.to best.group h.low h.other some

      sum : inverted_rank (count best.group) + count best.group ≡ 2 ^ 16
      sum = turned_sum (count best.group) some (are.from best.group (count best.group) here).fits

      by : (other live : ℕ) → IsCounted left_out count other live → (inverted_rank live < best.rank) ⊎ ((inverted_rank live ≡ best.rank) × (best.group ≤ other))
          → (count best.group < live) ⊎ ((count best.group ≡ live) × (best.group ≤ other))
      by other live is (inl l) = inl (omega (arith, l, h.is, sum, turned_sum live is.some is.fits))
      by other live is (inr e) = inr (omega (arith, e.0, h.is, sum, turned_sum live is.some is.fits), e.1)
