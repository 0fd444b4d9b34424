-- Which drives are lost, by their marks and by which are absent.
use Rattle.std.proofs.Common.{◌≡◌, ◌≢◌, ◌≤◌, ◌<◌, ◌+◌, ◌⊎◌, inl, inr, ℕ, zero, suc, Bool, true, false, Option, Some, None, is_some, List, [], ◌∷◌, length, slice_get, slice_set, refl, sym, ◌∙◌, ap, arith}
use Rattle.std.specs.Prelude.{◌||◌, ◌==◌, not, slice_index_or}
use Rattle.std.proofs.lemmas.Bool.{true≢false}
use Rattle.std.proofs.lemmas.Option.{same_Some, none-some, slice_get_cases, slice_get_past}
use Rattle.extent_groups.proofs.Places.{same_or_not, get-set_same, get-set_other}
use Rattle.extent_groups.specs.declared.place.Place.{Place}
use Rattle.extent_groups.specs.Cells.{Cells}
use Rattle.extent_groups.specs.Planned.{with_unit}
use Rattle.vault.specs.Images.{is_lost, is_some_true}
use Rattle.array_recovery.specs.Found.{AreGone, AreMarksIf, is_marked}
use Rattle.array_recovery.proofs.Replaying.{write, write_else, write_here}

pub some_is : (o : Option (List ℕ)) → is_some o ≡ true → (u : List ℕ) × (o ≡ Some u)
some_is None e = absurd (true≢false (sym e))
some_is (Some u) e = (u, refl)

-- the element of an index
pub index_is : (xs : List ℕ) (i x : ℕ) → slice_get xs i ≡ Some x → slice_index_or xs i 0 ≡ x
index_is [] i x e = absurd (none-some x e)
index_is (y ∷ ys) zero x e = same_Some _ _ e
index_is (y ∷ ys) (suc i) x e = index_is ys i x e

index_past : (xs : List ℕ) (i : ℕ) → length xs ≤ i → slice_index_or xs i 0 ≡ 0
index_past [] i high = refl
index_past (x ∷ xs) zero high = absurd (omega (arith, high))
index_past (x ∷ xs) (suc i) high = index_past xs i (omega (arith, high))

-- one drive more
pub gone_more : (marks : List ℕ) (absent lost : List Bool) (n mark : ℕ) (away b : Bool) → n < length lost → slice_get marks n ≡ Some mark → slice_get absent n ≡ Some away
    → b ≡ (not (mark == 0) || away) → ((d : ℕ) → d < n → is_lost lost d ≡ (is_marked marks d || is_lost absent d))
    → (d : ℕ) → d < n + 1 → is_lost (slice_set lost n b) d ≡ (is_marked marks d || is_lost absent d)
gone_more marks absent lost n mark away b low marked is_away is before d below = elim (same_or_not d n) [
  | inl here ↦
      ap (λ k. is_some_true (slice_get (slice_set lost n b) k)) here ∙ ap is_some_true (get-set_same lost n b low) ∙ is
      ∙ ap (λ m. not (m == 0) || away) (sym (index_is marks n mark marked)) ∙ ap (λ o. is_marked marks n || is_some_true o) (sym is_away)
      ∙ ap (λ k. is_marked marks k || is_lost absent k) (sym here)
  | inr ne ↦ ap is_some_true (get-set_other lost n d b ne) ∙ before d (grind arith)
]

-- all drives
pub gone_all : (marks : List ℕ) (absent lost : List Bool) → length marks ≡ 16 → length absent ≡ 16 → length lost ≡ 16
    → ((d : ℕ) → d < 16 → is_lost lost d ≡ (is_marked marks d || is_lost absent d)) → AreGone marks absent lost
gone_all marks absent lost m a l before = record {
  each = λ d. elim (slice_get_cases lost d).1 [
    | inl is ↦ (let low = is.1 in before d (omega (arith, low, l)))
    | inr past ↦
        (let high = past.0 in
        ap is_some_true past.1
        ∙ sym (ap (λ n. not (n == 0) || is_lost absent d) (index_past marks d (omega (arith, high, l, m))) ∙ ap is_some_true (slice_get_past absent d (omega (arith, high, l, a)))))
  ];
}

-- a write of another place leaves it, and one of its place makes it known
pub marks_else : (known : Bool) (marks : List ℕ) (c : Cells) (place : Place) (unit : List ℕ) → (16 ≢ place.drive) ⊎ (0 ≢ place.address) → AreMarksIf known marks c → AreMarksIf known marks (with_unit c (write place unit))
marks_else known marks c place unit apart are =
    let same = write_else c place unit 16 0 apart in
    record { there = ap (λ o. is_some o) same ∙ are.there; table = λ k. same ∙ are.table k }

pub marks_here : (known : Bool) (marks : List ℕ) (c : Cells) (place : Place) (unit : List ℕ) → 16 ≡ place.drive → 0 ≡ place.address → AreMarksIf known marks c → AreMarksIf true unit (with_unit c (write place unit))
marks_here known marks c place unit on at are =
    let old = some_is (c 16 0) are.there in
    let is = write_here c place unit old.0 16 0 on at old.1 in
    record { there = ap (λ o. is_some o) is; table = λ k. is }
