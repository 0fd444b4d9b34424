-- The shares of the right to step, after a step, after a seat came, after two seats became one or one was cut, and after a share was halved.
use Rattle.std.proofs.Common.{◌≡◌, ℕ, suc, ◌+◌, ◌-◌, ◌*◌, ◌^◌, ◌<◌, ◌≤◌, ◌≢◌, List, [], ◌∷◌, ◌++◌, length, set, sym, refl, ap, ◌∙◌, ⊎_elim, subst, arith}
use Rattle.std.proofs.Math.Nat.{pow-succ'}
use Rattle.atomic_table.proofs.Lists.{at_set, at_snoc}
use mathlib.Core.Option.{some}
use mathlib.Core.Logic.{dite}
use native.Mathlib.Decide.{dec_lt}
use lib.ListN.{get_elem?}
use Rattle.slot_words.specs.declared.view.Sight.{Sight}
use Rattle.slot_words.specs.declared.view.View.{View}
use Rattle.slot_words.specs.ClaimRule.{blank, total, weight, IsShared}
use Rattle.slot_words.specs.Steps.{both_pairs, pair_part, step_part, first_share, other_shares, kept_half, given_half}
use Rattle.slot_words.proofs.Sums.{total_set, total_push, total_both}

-- a share halved k times weighs at most twice as much where the whole right weighs twice as much
share_up : (n k : ℕ) → 2 ^ (suc n - k) ≤ 2 * 2 ^ (n - k)
share_up n k = dite (dec_lt n k)
    (λ (deep : n < k). let none : suc n - k ≡ 0 = omega arith in let last : n - k ≡ 0 = omega arith in
    let one : 2 ^ (suc n - k) ≡ 1 = ap (λ (m : ℕ). 2 ^ m) none in
    let same : 2 ^ (n - k) ≡ 1 = ap (λ (m : ℕ). 2 ^ m) last in omega arith)
    (λ (high : n < k → ⊥). let next : suc n - k ≡ suc (n - k) = omega arith in
    let twice : 2 ^ (suc n - k) ≡ 2 * 2 ^ (n - k) = ap (λ (m : ℕ). 2 ^ m) next ∙ pow-succ' 2 (n - k) in omega arith)

weight_up : (n : ℕ) (ks : List ℕ) → weight (suc n) ks ≤ 2 * weight n ks
weight_up n [] = omega arith
weight_up n (k ∷ ks) = let one = share_up n k in let rest = weight_up n ks in omega arith

total_up : (n : ℕ) (vs : List View) → total (λ (u : View). weight (suc n) u.shares) vs ≤ 2 * total (λ (u : View). weight n u.shares) vs
total_up n [] = omega arith
total_up n (v ∷ vs) = let one = weight_up n v.shares in let rest = total_up n vs in omega arith

weight_both : (n : ℕ) (ks ls : List ℕ) → weight n (ks ++ ls) ≡ weight n ls + weight n ks
weight_both n [] ls = omega arith
weight_both n (k ∷ ks) ls = let rest = weight_both n ks ls in omega arith

-- the two halves weigh, with what else there is, at most twice what all weighed
halved : (n : ℕ) (ks : List ℕ) → 0 < length ks → weight (suc n) ((first_share ks + 1) ∷ other_shares ks) + weight (suc n) ((first_share ks + 1) ∷ []) ≤ 2 * weight n ks
halved n [] live = absurd (omega arith)
halved n (k ∷ ks) live =
    let half : suc n - (k + 1) ≡ n - k = omega arith in
    let same : 2 ^ (suc n - (k + 1)) ≡ 2 ^ (n - k) = ap (λ (m : ℕ). 2 ^ m) half in
    let rest = weight_up n ks in omega arith

-- a seat that has no share made no step
abbrev pub IsSpent : View → Type 0
IsSpent v = v.shares ≡ [] → v.steps ≡ []

-- a list of at least one share isn't empty
live_not : (ks : List ℕ) → 0 < length ks → ks ≡ [] → ⊥
live_not ks live none = let e : length ks ≡ 0 = ap (λ (l : List ℕ). length l) none in omega arith

-- one view changes: each seat that has no share made no step
spent_set : (vs : List View) (id : ℕ) (w : View) → IsShared vs → IsSpent w → (s : ℕ) (x : View) → get_elem? (set vs id w) s ≡ some x → IsSpent x
spent_set vs id w so is s x at = ⊎_elim
    (λ (h : (s ≡ id) × (w ≡ x)). subst (λ (y : View). IsSpent y) h.1 is)
    (λ (h : (s ≢ id) × (get_elem? vs s ≡ some x)). so.spent s x h.1)
    (at_set vs id s w x at)

-- one view comes: each seat that has no share made no step
spent_snoc : (vs : List View) (w : View) → ((s : ℕ) (x : View) → get_elem? vs s ≡ some x → IsSpent x) → IsSpent w
    → (s : ℕ) (x : View) → get_elem? (vs ++ w ∷ []) s ≡ some x → IsSpent x
spent_snoc vs w so is s x at = ⊎_elim
    (λ (old : get_elem? vs s ≡ some x). so s x old)
    (λ (new : w ≡ x). subst (λ (y : View). IsSpent y) new is)
    (at_snoc vs w x s at)

-- a seat that has a share makes a step
pub shared_next : (vs : List View) (id : ℕ) (v w : View) → IsShared vs → get_elem? vs id ≡ some v → w.shares ≡ v.shares → 0 < length v.shares → IsShared (set vs id w)
shared_next vs id v w so here same live = record {
  within = let n = so.within.0 in let sum = total_set (λ (u : View). weight n u.shares) vs id v w here in
      let e : weight n w.shares ≡ weight n v.shares = ap (weight n) same in let was = so.within.1 in (n, omega arith);
  spent = spent_set vs id w so (λ none. absurd (live_not v.shares live (sym same ∙ none)));
}

-- a seat comes that may make no step
pub shared_more : (vs : List View) → IsShared vs → IsShared (vs ++ blank ∷ [])
shared_more vs so = record {
  within = let n = so.within.0 in let sum = total_push (λ (u : View). weight n u.shares) vs blank in let was = so.within.1 in (n, omega arith);
  spent = spent_snoc vs blank so.spent (λ none. refl);
}

-- two seats become one
pub shared_both : (vs : List View) (id other : ℕ) (v w : View) → IsShared vs → get_elem? vs id ≡ some v → other ≢ id → get_elem? vs other ≡ some w
    → IsShared (set (set vs id (both_pairs v w)) other blank)
shared_both vs id other v w so here differ there = record {
  within = let n = so.within.0 in
      let sum = total_both (λ (u : View). weight n u.shares) vs id other v w (both_pairs v w) blank here differ there (weight_both n w.shares v.shares) refl in
      let was = so.within.1 in (n, omega arith);
  spent = λ s x at. ⊎_elim
      (λ (h : (s ≡ other) × (blank ≡ x)). subst (λ (y : View). IsSpent y) h.1 (λ none. refl))
      (λ (h : (s ≢ other) × (get_elem? (set vs id (both_pairs v w)) s ≡ some x)). spent_set vs id (both_pairs v w) so together s x h.1)
      (at_set (set vs id (both_pairs v w)) other s blank x at);
}
  where
    -- neither has a share
    apart : (ks ls : List ℕ) → ks ++ ls ≡ [] → (ks ≡ []) × (ls ≡ [])
    apart [] ls none = (refl, none)
    apart (k ∷ ks) ls none = let e : length (k ∷ (ks ++ ls)) ≡ 0 = ap (λ (l : List ℕ). length l) none in absurd (omega arith)

    together : IsSpent (both_pairs v w)
    together none = let each = apart w.shares v.shares none in
        ap (λ (l : List Sight). l ++ w.steps) (so.spent id v here each.1) ∙ so.spent other w there each.0

-- a seat is cut in two
pub shared_parts : (vs : List View) (id : ℕ) (v : View) → IsShared vs → get_elem? vs id ≡ some v → IsShared (set vs id (pair_part v) ++ step_part v ∷ [])
shared_parts vs id v so here = record {
  within = let n = so.within.0 in
      let less = total_set (λ (u : View). weight n u.shares) vs id v (pair_part v) here in
      let more = total_push (λ (u : View). weight n u.shares) (set vs id (pair_part v)) (step_part v) in
      let was = so.within.1 in (n, omega arith);
  spent = spent_snoc (set vs id (pair_part v)) (step_part v) (spent_set vs id (pair_part v) so (λ none. refl)) (so.spent id v here);
}

-- a share is cut in two
pub shared_halves : (vs : List View) (id : ℕ) (v : View) → IsShared vs → get_elem? vs id ≡ some v → 0 < length v.shares → IsShared (set vs id (kept_half v) ++ given_half v ∷ [])
shared_halves vs id v so here live = record {
  within = let n = so.within.0 in
      let all = total_set (λ (u : View). weight (suc n) u.shares) vs id v (kept_half v) here in
      let more = total_push (λ (u : View). weight (suc n) u.shares) (set vs id (kept_half v)) (given_half v) in
      let less = total_set (λ (u : View). weight n u.shares) vs id v blank here in
      let without = total_set (λ (u : View). weight (suc n) u.shares) vs id v blank here in
      let up = total_up n (set vs id blank) in
      let halves = halved n v.shares live in
      let twice : 2 ^ suc n ≡ 2 * 2 ^ n = pow-succ' 2 n in
      let was = so.within.1 in (suc n, omega arith);
  spent = spent_snoc (set vs id (kept_half v)) (given_half v)
      (spent_set vs id (kept_half v) so (λ none. absurd (live_not ((first_share v.shares + 1) ∷ other_shares v.shares) (omega arith) none)))
      (λ none. refl);
}
