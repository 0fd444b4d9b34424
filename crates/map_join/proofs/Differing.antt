-- Two maps whose pages are compared.
use Rattle.std.proofs.Common.{◌≡◌, ◌≢◌, ℕ, ◌+◌, ◌*◌, ◌/◌, ◌%◌, ◌<◌, ◌≤◌, min, [], ◌∷◌, ◌++◌, slice_index, Option, Some, None, sym, ap, ◌∙◌, subst, arith, ◌⊎◌, inl, inr}
use Rattle.std.proofs.lemmas.Bool.{cases_eq, cases_lt}
use Rattle.map_join.specs.Maps.{Lanes, Entries, find, at, lanes_of, IsSame, IsLowestDifference, IsDifference}
use Rattle.map_join.specs.Pages.{IsDifferenceOf, lower_of}
use Rattle.map_join.proofs.Fronts.{IsMet, met_page, met_below, met_at, front_at, front_more}
use Rattle.map_join.proofs.Paged.{at_is, at_lane, at_none, paged_else}

-- keys that a map has are the other's too
abbrev pub AreShared : (ℕ → ℕ) → (ℕ → ℕ) → Type 0
AreShared M N = (block : ℕ) → 0 < M block → M block ≡ N block

pub shared_none : (N : ℕ → ℕ) → AreShared (at []) N
shared_none N block above = let z = at_none block in absurd (omega arith)

module _ (es front : Entries) (number : ℕ) (keys : Lanes) (rest : Entries) (met : IsMet es front number keys rest) (theirs : Entries) where
  their_lane : (b : ℕ) → b / 64 ≡ number → at theirs b ≡ lanes_of (find theirs number) (b % 64)
  their_lane b is = at_is theirs b ∙ ap (λ n. lanes_of (find theirs n) (b % 64)) is

  -- one page more is the same
  pub shared_more : AreShared (at front) (at theirs) → IsSame (slice_index keys) (lanes_of (find theirs number))
      → AreShared (at (front ++ (number, keys) ∷ [])) (at theirs)
  shared_more before same b above = go (cases_eq (b / 64) number)
    where
      go : (b / 64 ≡ number) ⊎ (b / 64 ≡ number → ⊥) → at (front ++ (number, keys) ∷ []) b ≡ at theirs b
      go (inl is) = front_at es front number keys rest met b is ∙ same (b % 64) ∙ sym (their_lane b is)
      go (inr ne) =
          let f = front_more es front number keys rest met b in
          let e = paged_else number (slice_index keys) b ne in
          let is : at (front ++ (number, keys) ∷ []) b ≡ at front b = grind arith in
          is ∙ before b (subst (λ k. 0 < k) is above)

  -- or its first lane that differs is the lowest difference
  pub differs_here : (lane : ℕ) → lane < 64 → AreShared (at front) (at theirs) → IsLowestDifference (slice_index keys) (lanes_of (find theirs number)) lane
      → IsDifferenceOf (at es) (at theirs) (Some (64 * number + lane))
  differs_here lane low before here = (differs, lowest)
    where
      differs : at es (64 * number + lane) ≢ at theirs (64 * number + lane)
      differs e = here.differs (sym (at_lane es number lane low ∙ ap (λ o. lanes_of o lane) (met_page es front number keys rest met)) ∙ e ∙ at_lane theirs number lane low)

      lowest : (b : ℕ) → b < 64 * number + lane → 0 < at es b → at es b ≡ at theirs b
      lowest b lt above = go (cases_lt (b / 64) number)
        where
          go : (b / 64 < number) ⊎ (number ≤ b / 64) → at es b ≡ at theirs b
          go (inl l) =
              let f = met_below es front number keys rest met b l in
              f ∙ before b (subst (λ k. 0 < k) f above)
          go (inr le) =
              let is : b / 64 ≡ number = omega arith in
              met_at es front number keys rest met b is ∙ here.lowest (b % 64) (omega arith) ∙ sym (their_lane b is)

-- what a page and what was read of the other map say of their lanes
module _ (keys read ours : Lanes) (F : ℕ → ℕ) (own : read ≡ keys) (same : IsSame (slice_index ours) F) where
  pub lanes_same : IsSame (slice_index read) (slice_index ours) → IsSame (slice_index keys) F
  lanes_same is lane = ap (λ (xs : Lanes). slice_index xs lane) (sym own) ∙ is lane ∙ same lane

  pub lanes_differ : (lane : ℕ) → IsLowestDifference (slice_index read) (slice_index ours) lane → IsLowestDifference (slice_index keys) F lane
  lanes_differ lane d = record {
    differs = λ e. d.differs (ap (λ (xs : Lanes). slice_index xs lane) own ∙ e ∙ sym (same lane));
    lowest = λ lower lt. ap (λ (xs : Lanes). slice_index xs lower) (sym own) ∙ d.lowest lower lt ∙ same lower;
  }

-- two numbers are the same where each that is above 0 is the other
same_where : (m n : ℕ) → (0 < m → m ≡ n) → (0 < n → n ≡ m) → m ≡ n
same_where m n to from = go (cases_lt 0 m) (cases_lt 0 n)
  where
    go : (0 < m) ⊎ (m ≤ 0) → (0 < n) ⊎ (n ≤ 0) → m ≡ n
    go (inl above) _ = to above
    go (inr _) (inl above) = sym (from above)
    go (inr a) (inr b) = omega arith

-- the lower difference of both is the lowest
pub lowest : (M N : ℕ → ℕ) (ours theirs : Option ℕ) → IsDifferenceOf M N ours → IsDifferenceOf N M theirs → IsDifference M N (lower_of ours theirs)
lowest M N None None to from = λ block. same_where (M block) (N block) (to block) (from block)
lowest M N None (Some b) to from = record {
  differs = λ e. from.0 (sym e);
  lowest = λ lower lt. same_where (M lower) (N lower) (to lower) (from.1 lower lt);
}
lowest M N (Some a) None to from = record {
  differs = to.0;
  lowest = λ lower lt. same_where (M lower) (N lower) (to.1 lower lt) (from lower);
}
lowest M N (Some a) (Some b) to from = go (cases_lt a b)
  where
    low : (lower : ℕ) → lower < min a b → M lower ≡ N lower
    low lower lt = same_where (M lower) (N lower) (to.1 lower (omega arith)) (from.1 lower (omega arith))

    go : (a < b) ⊎ (b ≤ a) → IsLowestDifference M N (min a b)
    go (inl lt) = let is : a ≡ min a b = omega arith in record { differs = subst (λ k. M k ≢ N k) is to.0; lowest = low }
    go (inr le) = let is : b ≡ min a b = omega arith in record { differs = subst (λ k. M k ≢ N k) is (λ e. from.0 (sym e)); lowest = low }
