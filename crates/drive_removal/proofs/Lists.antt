-- Elements of a list that gets one more, and marks that are 0.
use Rattle.std.proofs.Common.{◌≡◌, ◌<◌, ◌≤◌, ℕ, zero, suc, Bool, true, false, Some, List, [], ◌∷◌, ◌++◌, length, replicate, slice_get, refl, ap, ◌∙◌, arith}
use Rattle.std.specs.Prelude.{◌==◌, ◌||◌, not, slice_index_or}
use Rattle.std.proofs.lemmas.List.{get_or-replicate, length-replicate}
use Rattle.std.proofs.lemmas.Option.{none-some, slice_get-get_or}
use Rattle.vault.specs.Images.{is_lost}
use Rattle.journaled_store.specs.Steps.{loss_mark}
use Rattle.array_recovery.specs.Found.{is_marked}
use Rattle.array_recovery.proofs.Marking.{index_is}

pub last_is : {A : Type 0} (xs : List A) (y : A) → slice_get (xs ++ y ∷ []) (length xs) ≡ Some y
last_is [] y = refl
last_is (x ∷ xs) y = last_is xs y

pub low_is : {A : Type 0} (xs : List A) (y x : A) (i : ℕ) → slice_get xs i ≡ Some x → slice_get (xs ++ y ∷ []) i ≡ Some x
low_is [] y x i e = absurd (none-some x e)
low_is (z ∷ xs) y x zero e = e
low_is (z ∷ xs) y x (suc i) e = low_is xs y x i e

-- past the last mark there is none
past : (marks : List ℕ) (d : ℕ) → length marks ≤ d → slice_index_or marks d 0 ≡ 0
past [] d high = refl
past (m ∷ ms) zero high = absurd (omega (arith, high))
past (m ∷ ms) (suc d) high = past ms d (omega (arith, high))

pub past_marks : (marks : List ℕ) (d : ℕ) → length marks ≤ d → is_marked marks d ≡ false
past_marks marks d high = ap (λ n. not (n == 0)) (past marks d high)

pub no_mark : (marks : List ℕ) (d : ℕ) → slice_get marks d ≡ Some 0 → is_marked marks d ≡ false
no_mark marks d is = ap (λ n. not (n == 0)) (index_is marks d 0 is)

-- sixteen marks that are 0
pub zeros_are : (n d : ℕ) → d < n → slice_get {X = ℕ} (replicate n 0) d ≡ Some 0
zeros_are n d low =
    let zeros : List ℕ = replicate n 0 in
    let long : length zeros ≡ n = length-replicate n 0 in
    slice_get-get_or zeros d 0 (omega (arith, low, long)) ∙ ap (λ (k : ℕ). Some k) (get_or-replicate n d 0 0 low)

-- a drive whose mark is 0
pub unlost : (b : Bool) → loss_mark b ≡ 0 → b ≡ false
unlost false e = refl
unlost true e = absurd (omega (arith, e))

pub none_lost : (n d : ℕ) → is_lost (replicate n false) d ≡ false
none_lost zero d = refl
none_lost (suc n) zero = refl
none_lost (suc n) (suc d) = none_lost n d

or_none : (a b : Bool) → b ≡ false → (a || b) ≡ a
or_none true b e = refl
or_none false b e = e

-- where no drive is absent
pub none_absent : (marks : List ℕ) (n d : ℕ) → (is_marked marks d || is_lost (replicate n false) d) ≡ is_marked marks d
none_absent marks n d = or_none (is_marked marks d) (is_lost (replicate n false) d) (none_lost n d)
