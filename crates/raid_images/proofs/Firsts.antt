-- The first of a list that meets a condition.
use Rattle.std.proofs.Common.{◌≡◌, ◌+◌, ◌<◌, ◌≤◌, ◌⊎◌, inl, inr, ℕ, List, Some, length, slice_get, get_or, refl, sym, ◌∙◌, ap, subst, arith}
use Rattle.std.proofs.lemmas.Bool.{cases_lt}
use Rattle.std.proofs.lemmas.Option.{slice_get-get_or, slice_get_within, same_Some}

-- the element at an index in range
pub at_index : {A : Type 0} (xs : List A) (k : ℕ) (x : A) → k < length xs → x ≡ get_or xs k x → slice_get xs k ≡ Some x
at_index xs k x low is = slice_get-get_or xs k x low ∙ ap (λ y. Some y) (sym is)

-- an element that is there is the one at its index
pub same_at : {A : Type 0} (xs : List A) (k : ℕ) (x y : A) → slice_get xs k ≡ Some x → slice_get xs k ≡ Some y → x ≡ y
same_at xs k x y one other = same_Some x y (sym one ∙ other)

-- none up to a number, if none below it and it isn't one
pub none_next : (P : ℕ → Type 0) (n : ℕ) → ((k : ℕ) → k < n → P k → ⊥) → (P n → ⊥) → (k : ℕ) → k < n + 1 → P k → ⊥
none_next P n before here k low p = go (cases_lt k n)
  where
    go : (k < n) ⊎ (n ≤ k) → ⊥
    go (inl l) = before k l p
    go (inr le) =
        let is : k ≡ n = omega arith in
        here (subst P is p)
