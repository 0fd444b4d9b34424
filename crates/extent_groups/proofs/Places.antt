-- A list with one place written, read at that place and at another.
use Rattle.std.proofs.Common.{◌≡◌, ◌≢◌, ℕ, zero, suc, ◌<◌, ◌⊎◌, inl, inr, Some, List, [], ◌∷◌, length, refl, ap, arith}
use Rattle.std.specs.Prelude.{slice_get, slice_set}
use Rattle.std.proofs.lemmas.Bool.{cases_order}

-- the place that was written
pub get-set_same : {X : Type 0} (xs : List X) (i : ℕ) (x : X) → i < length xs → slice_get (slice_set xs i x) i ≡ Some x
get-set_same [] i x h = absurd (omega arith)
get-set_same (y ∷ ys) zero x h = refl
get-set_same (y ∷ ys) (suc i) x h = get-set_same ys i x (omega arith)

-- another place
pub get-set_other : {X : Type 0} (xs : List X) (i j : ℕ) (x : X) → j ≢ i → slice_get (slice_set xs i x) j ≡ slice_get xs j
get-set_other [] i j x h = refl
get-set_other (y ∷ ys) zero zero x h = absurd (h refl)
get-set_other (y ∷ ys) zero (suc j) x h = refl
get-set_other (y ∷ ys) (suc i) zero x h = refl
get-set_other (y ∷ ys) (suc i) (suc j) x h = get-set_other ys i j x (λ e. h (ap (λ n. suc n) e))

-- a place that is written is there, or the list is as it was
pub written_or_not : {X : Type 0} (xs : List X) (i : ℕ) (x : X) → (slice_get (slice_set xs i x) i ≡ Some x) ⊎ (slice_set xs i x ≡ xs)
written_or_not [] i x = inr refl
written_or_not (y ∷ ys) zero x = inl refl
written_or_not (y ∷ ys) (suc i) x = elim (written_or_not ys i x) [ inl e ↦ inl e | inr e ↦ inr (ap (λ zs. y ∷ zs) e) ]

-- two numbers are one or not
pub same_or_not : (i j : ℕ) → (i ≡ j) ⊎ (i ≢ j)
same_or_not i j = elim (cases_order i j) [ inl e ↦ inl e | inr o ↦ inr (elim o [ inl below ↦ λ e. omega arith | inr above ↦ λ e. omega arith ]) ]
