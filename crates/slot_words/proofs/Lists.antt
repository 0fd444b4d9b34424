-- Elements of two lists put together, and a word that is written.
use Rattle.std.proofs.Common.{◌≡◌, ℕ, zero, suc, ◌+◌, ◌<◌, ◌⊎◌, List, [], ◌∷◌, ◌++◌, length, sym, refl, inl, inr, ⊎_elim, subst, arith}
use mathlib.Core.Option.{some, some-injective, some-ne-none}
use lib.ListN.{get_elem?}

module _ {A : Type 0} where
  -- an element's number is below the length
  pub at_inside : (l : List A) (i : ℕ) (a : A) → get_elem? l i ≡ some a → i < length l
  at_inside [] i a e = absurd (some-ne-none a (sym e))
  at_inside (x ∷ xs) zero a e = omega arith
  at_inside (x ∷ xs) (suc i) a e = let h : i < length xs = at_inside xs i a e in omega arith

  -- an element of two lists together is of the one or of the other
  pub at_append : (l m : List A) (i : ℕ) (a : A) → get_elem? (l ++ m) i ≡ some a
      → ((i < length l) × (get_elem? l i ≡ some a)) ⊎ ((j : ℕ) × (i ≡ length l + j) × (get_elem? m j ≡ some a))
  at_append [] m i a e = inr (i, (omega arith), e)
  at_append (x ∷ xs) m zero a e = inl ((omega arith), e)
  at_append (x ∷ xs) m (suc i) a e = ⊎_elim
      (λ (h : (i < length xs) × (get_elem? xs i ≡ some a)). let b = h.0 in inl ((omega arith), h.1))
      (λ (h : (j : ℕ) × (i ≡ length xs + j) × (get_elem? m j ≡ some a)). let b = h.1 in inr (h.0, (omega arith), h.2))
      (at_append xs m i a e)

  -- an element of the second of two lists
  pub at_following : (l m : List A) (j : ℕ) (a : A) → get_elem? m j ≡ some a → get_elem? (l ++ m) (length l + j) ≡ some a
  at_following [] m j a e = let same : j ≡ 0 + j = omega arith in subst (λ (i : ℕ). get_elem? m i ≡ some a) same e
  at_following (x ∷ xs) m j a e = let same : suc (length xs + j) ≡ length (x ∷ xs) + j = omega arith in
      subst (λ (i : ℕ). get_elem? (x ∷ (xs ++ m)) i ≡ some a) same (at_following xs m j a e)

  -- an empty list has no element at any place
  pub nowhere : (l : List A) (i : ℕ) (a : A) → l ≡ [] → get_elem? l i ≡ some a → ⊥
  nowhere l i a e at = some-ne-none a (sym (subst (λ (k : List A). get_elem? k i ≡ some a) e at))

  -- in a list of one, an element is that one, and has place 0
  pub alone : (l : List A) (i : ℕ) (a b : A) → l ≡ a ∷ [] → get_elem? l i ≡ some b → (i ≡ 0) × (a ≡ b)
  alone l i a b e at = one i a b (subst (λ (k : List A). get_elem? k i ≡ some b) e at)
    where
      one : (i : ℕ) (a b : A) → get_elem? (a ∷ []) i ≡ some b → (i ≡ 0) × (a ≡ b)
      one zero a b e = (refl, some-injective a b e)
      one (suc i) a b e = absurd (some-ne-none b (sym e))
