-- Ascending lists of exactly the numbers with a property: made one by one, and compared.
use Rattle.std.proofs.Common.{◌≡◌, ◌∙◌, ◌⊎◌, inl, inr, ℕ, ◌+◌, ◌<◌, ◌≤◌, true, List, [], ◌∷◌, ◌++◌, length, get_or, ap, subst, arith, Contains}
use Rattle.std.specs.List.Sorted.{IsStrictlyIncreasing}
use Rattle.std.proofs.lemmas.Bool.{cases_lt, cases_eq}
use Rattle.std.proofs.lemmas.List.{length_push, get_or_append_left}
use Rattle.std.proofs.Math.Seq.{get_or-append_seam}
use Rattle.std.proofs.lemmas.List.Elements.{Contains-get_or, Contains-append_left, Contains-push, Contains-push_cases}
use Rattle.std.specs.Bool.{Decides}
use Rattle.std.specs.Ordering.{nat_cmp, eq_by_cmp}
use Rattle.std.proofs.lemmas.Bool.Decides.{nat_tests}
use Rattle.std.proofs.lemmas.Cmp.{nat_cmp_total, eq_by_cmp_equiv}
use Rattle.std.proofs.lemmas.Map.Keys.{IsDistinct-from_sorted, sorted_from_strictly_increasing}
use Rattle.std.proofs.lemmas.Map.Made.{is_member-Decides, length-le_from_is_member}
use Rattle.map_join.specs.Lists.{Lists, ListsBelow, IsCount}

pub rising_push : (xs : List ℕ) (a : ℕ) → IsStrictlyIncreasing xs → ((n : ℕ) → Contains xs n → n < a) → IsStrictlyIncreasing (xs ++ a ∷ [])
rising_push xs a rising below k within = by (cases_lt (k + 1) (length xs))
  where
    front : (j : ℕ) → j < length xs → get_or (xs ++ a ∷ []) j 0 ≡ get_or xs j 0
    front j l = get_or_append_left xs (a ∷ []) 0 j l

    by : (k + 1 < length xs) ⊎ (length xs ≤ k + 1) → get_or (xs ++ a ∷ []) k 0 < get_or (xs ++ a ∷ []) (k + 1) 0
    by (inl l) = omega (arith, rising k l, front k (omega arith), front (k + 1) l)
    by (inr m) =
        let long = length_push xs a in
        let last : k + 1 ≡ length xs = omega arith in
        let seam : get_or (xs ++ a ∷ []) (k + 1) 0 ≡ a = ap (λ j. get_or (xs ++ a ∷ []) j 0) last ∙ get_or-append_seam xs a [] 0 in
        omega (arith, seam, front k (omega arith), below (get_or xs k 0) (Contains-get_or xs k 0 (omega arith)))

module _ (P : ℕ → Type 0) where
  pub below_none : (b : ℕ) → ((n : ℕ) → n < b → P n → ⊥) → ListsBelow P b []
  below_none b none = record {
    rising = λ k l. absurd (omega (arith, l));
    each = λ n. ((λ c. absurd (omega (arith, c.1))), (λ h. absurd (none n h.0 h.1)));
  }

  -- none of the numbers up to another bound has the property
  pub below_skip : (a b : ℕ) (xs : List ℕ) → a ≤ b → ((n : ℕ) → a ≤ n → n < b → P n → ⊥) → ListsBelow P a xs → ListsBelow P b xs
  below_skip a b xs le none h = record {
    rising = h.rising;
    each = λ n. ((λ c. let e = (h.each n).0 c in (omega (arith, le, e.0), e.1)), (λ w. (h.each n).1 (by n w.0 w.1 (cases_lt n a), w.1)));
  }
    where
      by : (n : ℕ) → n < b → P n → (n < a) ⊎ (a ≤ n) → n < a
      by n l p (inl m) = m
      by n l p (inr m) = absurd (none n m l p)

  -- the bound has the property, and is pushed
  pub below_more : (a : ℕ) (xs : List ℕ) → P a → ListsBelow P a xs → ListsBelow P (a + 1) (xs ++ a ∷ [])
  below_more a xs p h = record {
    rising = rising_push xs a h.rising (λ n c. ((h.each n).0 c).0);
    each = λ n. ((λ c. to n (Contains-push_cases xs a n c)), (λ w. from n w.0 w.1 (cases_eq a n)));
  }
    where
      to : (n : ℕ) → Contains xs n ⊎ (a ≡ n) → (n < a + 1) × P n
      to n (inl c) = let e = (h.each n).0 c in (omega (arith, e.0), e.1)
      to n (inr e) = (omega (arith, e), subst P e p)

      from : (n : ℕ) → n < a + 1 → P n → (a ≡ n) ⊎ (a ≡ n → ⊥) → Contains (xs ++ a ∷ []) n
      from n l q (inl e) = subst (Contains (xs ++ a ∷ [])) e (Contains-push xs a)
      from n l q (inr ne) = Contains-append_left xs (a ∷ []) n ((h.each n).1 (omega (arith, l, ne), q))

  -- every number with the property is below the bound
  pub below_all : (b : ℕ) (xs : List ℕ) → ((n : ℕ) → P n → n < b) → ListsBelow P b xs → Lists P xs
  below_all b xs low h = record {
    rising = h.rising;
    each = λ n. ((λ c. ((h.each n).0 c).1), (λ p. (h.each n).1 (low n p, p)));
  }

-- a list for one property is a list for the other, where both hold of the same numbers
pub lists_same : (P Q : ℕ → Type 0) (xs : List ℕ) → ((n : ℕ) → P n → Q n) → ((n : ℕ) → Q n → P n) → Lists P xs → Lists Q xs
lists_same P Q xs to from h = record {
  rising = h.rising;
  each = λ n. ((λ c. to n ((h.each n).0 c)), (λ q. (h.each n).1 (from n q)));
}

-- and a count for one is a count for the other
pub count_same : (P Q : ℕ → Type 0) (count : ℕ) → ((n : ℕ) → P n → Q n) → ((n : ℕ) → Q n → P n) → IsCount P count → IsCount Q count
count_same P Q count to from h = (h.0, lists_same P Q h.0 to from h.1, h.2)

-- two numbers compare as equal exactly where they are one
is_one : (a b : ℕ) → Decides (eq_by_cmp nat_cmp a b) (a ≡ b)
is_one a b = (to, from)
  where
    to : eq_by_cmp nat_cmp a b ≡ true → a ≡ b
    to t = grind (arith, nat_tests)

    from : a ≡ b → eq_by_cmp nat_cmp a b ≡ true
    from e = grind (arith, nat_tests)

-- no list of the numbers with a property is longer than another
no_longer : (P : ℕ → Type 0) (xs ys : List ℕ) → Lists P xs → Lists P ys → length xs ≤ length ys
no_longer P xs ys h k =
    length-le_from_is_member (eq_by_cmp_equiv nat_cmp_total) xs ys (IsDistinct-from_sorted nat_cmp xs (sorted_from_strictly_increasing xs h.rising))
    (λ q t. (is_member-Decides is_one ys q).1 ((k.each q).1 ((h.each q).0 ((is_member-Decides is_one xs q).0 t))))

-- so there is one count
pub count_once : (P : ℕ → Type 0) (m n : ℕ) → IsCount P m → IsCount P n → m ≡ n
count_once P m n h k = omega (arith, no_longer P h.0 k.0 h.1 k.1, no_longer P k.0 h.0 k.1 h.1, h.2, k.2)

-- it is 0 exactly where no number has the property
pub count_zero : (P : ℕ → Type 0) → IsCount P 0 → (n : ℕ) → P n → ⊥
count_zero P h n p = let has = (h.1.each n).1 p in absurd (omega (arith, has.1, h.2))

pub count_none : (P : ℕ → Type 0) (count : ℕ) → IsCount P count → ((n : ℕ) → P n → ⊥) → count ≡ 0
count_none P count h none = by (cases_lt 0 (length h.0))
  where
    by : (0 < length h.0) ⊎ (length h.0 ≤ 0) → count ≡ 0
    by (inl l) = absurd (none (get_or h.0 0 0) ((h.1.each (get_or h.0 0 0)).0 (Contains-get_or h.0 0 0 l)))
    by (inr l) = omega (arith, h.2)

-- where it is above 0, some number has the property
pub count_some : (P : ℕ → Type 0) (count : ℕ) → IsCount P count → 0 < count → (n : ℕ) × P n
count_some P count h some =
    let l : 0 < length h.0 = omega (arith, h.2) in
    (get_or h.0 0 0, (h.1.each (get_or h.0 0 0)).0 (Contains-get_or h.0 0 0 l))
