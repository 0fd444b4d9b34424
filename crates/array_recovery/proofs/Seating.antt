-- Drives in memory, seated one by one.
use Rattle.std.proofs.Common.{◌≡◌, ◌≤◌, ◌<◌, ◌+◌, inl, inr, ℕ, zero, suc, Bool, Some, List, [], ◌∷◌, ◌++◌, length, length-append, slice_get, drop, refl, sym, ◌∙◌, ap, subst, arith}
use Rattle.std.proofs.lemmas.Option.{same_Some, none-some}
use Rattle.extents.specs.Condition.{Held}
use Rattle.history.specs.declared.view.Entry.{Entry}
use Rattle.history.specs.Entries.{Course, entry}
use Rattle.vault.specs.Images.{is_lost}
use Rattle.cached_drive.specs.Saving.{Units, saved_by}
use Rattle.journaled_store.proofs.Leading.{saved_own, saved_other}
use Rattle.array_recovery.specs.Found.{AreSeated}
use Rattle.rotten_units.proofs.Loading.{get_more}

empty_not : {A : Type 0} (x : A) (xs : List A) → [] ≡ x ∷ xs → ⊥
empty_not x xs e = let none = ap length e in omega (arith, none)

-- what is left of a list, and the element that was taken of it
pub drop_first : {A : Type 0} (xs : List A) (n : ℕ) (x : A) (rest : List A) → drop n xs ≡ x ∷ rest → (slice_get xs n ≡ Some x) × (drop (suc n) xs ≡ rest) × (n < length xs)
drop_first [] zero x rest e = absurd (empty_not x rest e)
drop_first [] (suc n) x rest e = absurd (empty_not x rest e)
drop_first (y ∷ ys) zero x rest e = (ap (λ l. slice_get l 0) e, ap (λ l. drop 1 l) e, omega arith)
drop_first (y ∷ ys) (suc n) x rest e = let more = drop_first ys n x rest e in let low = more.2 in (more.0, more.1, omega (arith, low))

-- nothing is left
pub drop_none : {A : Type 0} (xs : List A) (n : ℕ) → drop n xs ≡ [] → length xs ≤ n
drop_none [] n e = omega arith
drop_none (x ∷ xs) zero e = absurd (empty_not x xs (sym e))
drop_none (x ∷ xs) (suc n) e = let low = drop_none xs n e in omega (arith, low)

-- the first drives are seated, as many as there are hands
pub record AreSeatedTo {D : Type 0} (units : D → Units) (gone : D → Bool) (lost : List Bool) (caches : List Held) (drives : List D) (k : Course Units) : Type 0 where
  pub hired : k.hired ≡ length drives
  pub units_are : (d : ℕ) (x : D) (m : Held) → slice_get drives d ≡ Some x → slice_get caches d ≡ Some m → units x ≡ m.units
  pub gone_are : (d : ℕ) (x : D) → slice_get drives d ≡ Some x → gone x ≡ is_lost lost d
  pub saved : (d : ℕ) (x : D) → slice_get drives d ≡ Some x → saved_by d k.log ≡ units x

module _ {D : Type 0} (units : D → Units) (gone : D → Bool) (lost : List Bool) (caches : List Held) where
  -- no drive and no hand
  pub seated_none : AreSeatedTo units gone lost caches [] (record { hired = 0; log = [] })
  seated_none = record {
    hired = refl;
    units_are = λ d x m e f. absurd (none-some x e);
    gone_are = λ d x e. absurd (none-some x e);
    saved = λ d x e. absurd (none-some x e);
  }

  -- one more
  pub seated_more : (drives : List D) (log : List (Entry Units)) (hired : ℕ) (x : D) (m : Held) → AreSeatedTo units gone lost caches drives (record { hired = hired; log = log })
      → slice_get caches (length drives) ≡ Some m → units x ≡ m.units → gone x ≡ is_lost lost (length drives)
      → AreSeatedTo units gone lost caches (drives ++ x ∷ []) (record { hired = hired + 1; log = log ++ entry (length drives) m.units ∷ [] })
  seated_more drives log hired x m seated at units_is gone_is = record {
    hired = (let was = seated.hired in omega (arith, was, length-append drives (x ∷ [])));
    units_are = λ d y n e f. elim (get_more drives x y d e) [
      | inl last ↦ sym (ap units last.1) ∙ units_is ∙ ap (λ (h : Held). h.units) (same_Some _ _ (sym at ∙ ap (λ k. slice_get caches k) (sym last.0) ∙ f))
      | inr early ↦ seated.units_are d y n early.1 f
    ];
    gone_are = λ d y e. elim (get_more drives x y d e) [
      | inl last ↦ sym (ap gone last.1) ∙ gone_is ∙ ap (is_lost lost) (sym last.0)
      | inr early ↦ seated.gone_are d y early.1
    ];
    saved = λ d y e. elim (get_more drives x y d e) [
      | inl last ↦ ap (λ k. saved_by k (log ++ entry (length drives) m.units ∷ [])) last.0 ∙ saved_own (length drives) log m.units ∙ sym units_is ∙ ap units last.1
      | inr early ↦ (let low = early.0 in saved_other d (length drives) log m.units (λ is. omega (arith, low, is)) ∙ seated.saved d y early.1)
    ];
  }

  -- one more, and what was hired and noted for it
  pub seated_next : (drives more : List D) (k now : Course Units) (x : D) (m : Held) → AreSeatedTo units gone lost caches drives k
      → more ≡ drives ++ x ∷ [] → now ≡ record { hired = k.hired + 1; log = k.log ++ entry (length drives) m.units ∷ [] }
      → slice_get caches (length drives) ≡ Some m → units x ≡ m.units → gone x ≡ is_lost lost (length drives)
      → AreSeatedTo units gone lost caches more now
  seated_next drives more k now x m seated pushed next at units_is gone_is =
      subst (λ (ds : List D). AreSeatedTo units gone lost caches ds now) (sym pushed)
      (subst (λ (l : Course Units). AreSeatedTo units gone lost caches (drives ++ x ∷ []) l) (sym next)
      (seated_more drives k.log k.hired x m seated at units_is gone_is))

  -- all of them
  pub seated_all : (drives : List D) (k : Course Units) → AreSeatedTo units gone lost caches drives k → length drives ≡ length caches → AreSeated units gone lost caches drives k
  seated_all drives k seated many = record {
    many = many;
    hired = seated.hired ∙ many;
    units_are = seated.units_are;
    gone_are = seated.gone_are;
    saved = seated.saved;
  }
