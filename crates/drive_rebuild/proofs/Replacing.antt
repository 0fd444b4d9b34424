-- The marks of a drive that is replaced, and what a stop leaves with them.
use Rattle.std.proofs.Common.{◌≡◌, ◌≢◌, ◌<◌, inl, inr, ℕ, zero, suc, Bool, true, false, Option, Some, None, is_some, List, [], ◌∷◌, length, slice_get, slice_set, replicate, refl, sym, ◌∙◌, ap}
use Rattle.std.specs.Prelude.{◌==◌, ◌||◌, not, slice_index_or}
use Rattle.std.proofs.lemmas.Bool.{true≢false}
use Rattle.std.proofs.lemmas.Option.{none-some, slice_get_cases}
use Rattle.extent_groups.specs.declared.place.Place.{Place}
use Rattle.extent_groups.specs.Groups.{Groups}
use Rattle.extent_groups.specs.Cells.{Cells, held}
use Rattle.extent_groups.specs.Planned.{after}
use Rattle.extent_groups.proofs.Places.{same_or_not, get-set_other, get-set_same}
use Rattle.vault.specs.Images.{Image, Matches, SameOn, is_lost, recovered}
use Rattle.vault.specs.Moments.{AreLogged, IsBeforeOrAfter}
use Rattle.vault.specs.declared.store.Stop.{Stop}
use Rattle.journaled_store.specs.Steps.{table_write}
use Rattle.array_recovery.specs.Found.{AreGone, IsTable, is_marked}
use Rattle.array_recovery.specs.Reopened.{marked}
use Rattle.array_recovery.proofs.Marking.{index_is}
use Rattle.array_recovery.proofs.Outlasting.{marked_is}
use Rattle.drive_rebuild.specs.Rebuilt.{AreMarkedLost, AreVerified, IsBeforeOrReplaced, IsReplaced, IsReplacedIn}
use Rattle.drive_rebuild.specs.Written.{AreLostWith, IsOnlyMarked, unmarked}
use Rattle.drive_rebuild.proofs.Rebuilding.{past_marks}
use Rattle.drive_rebuild.proofs.Underway.{logged_less, recovered_empty}

-- no drive is absent
none_absent : (n d : ℕ) → is_lost (replicate n false) d ≡ false
none_absent zero d = refl
none_absent (suc n) zero = refl
none_absent (suc n) (suc d) = none_absent n d

or_none : (a b : Bool) → b ≡ false → (a || b) ≡ a
or_none true b e = refl
or_none false b e = e

pub counts_of : (marks : List ℕ) (counts : List Bool) → AreGone marks (replicate 16 false) counts → (d : ℕ) → is_lost counts d ≡ is_marked marks d
counts_of marks counts gone d = gone.each d ∙ or_none (is_marked marks d) (is_lost (replicate 16 false) d) (none_absent 16 d)

-- the same element gives the same mark
index_none : (xs : List ℕ) (i : ℕ) → slice_get xs i ≡ None → slice_index_or xs i 0 ≡ 0
index_none [] i e = refl
index_none (x ∷ xs) zero e = absurd (none-some x (sym e))
index_none (x ∷ xs) (suc i) e = index_none xs i e

index_same : (xs ys : List ℕ) (i : ℕ) (o : Option ℕ) → slice_get xs i ≡ o → slice_get ys i ≡ o → slice_index_or xs i 0 ≡ slice_index_or ys i 0
index_same xs ys i None e f = index_none xs i e ∙ sym (index_none ys i f)
index_same xs ys i (Some x) e f = index_is xs i x e ∙ sym (index_is ys i x f)

module _ (drives number : ℕ) (lost counts : List Bool) (before : Cells) (marks now : List ℕ) (table : IsTable marks before) (wide : length marks ≡ 16) (only : IsOnlyMarked marks drives number)
    (lost_are : AreMarkedLost drives lost before) (now_is : now ≡ unmarked marks number) (counts_are : (d : ℕ) → is_lost counts d ≡ is_marked now d) where
  other : (d : ℕ) → d ≢ number → is_lost counts d ≡ is_marked marks d
  other d ne = counts_are d ∙ ap (λ (l : List ℕ). is_marked l d) now_is
      ∙ ap (λ n. not (n == 0)) (index_same (slice_set marks number 0) marks d (slice_get marks d) (get-set_other marks number d 0 ne) refl)

  inside : number < length marks
  inside = elim (slice_get_cases marks number).1 [
    | inl some ↦ some.1
    | inr past ↦ absurd (true≢false (sym only.marked ∙ past_marks marks number past.0))
  ]

  own : is_lost counts number ≡ false
  own = counts_are number ∙ ap (λ (l : List ℕ). is_marked l number) now_is ∙ ap (λ n. not (n == 0)) (index_is (slice_set marks number 0) number 0 (get-set_same marks number 0 inside))

  pub lost_with : AreLostWith lost counts number
  lost_with = record {
    gone = lost_are.each marks table number only.inside ∙ only.marked;
    rest = λ d out. elim (same_or_not d number) [
      | inl here ↦ absurd (true≢false (sym only.marked ∙ ap (λ k. is_marked marks k) (sym here) ∙ lost_are.rest marks table d out))
      | inr ne ↦ other d ne ∙ lost_are.rest marks table d out
    ];
  }

  pub free : (d : ℕ) → d < drives → is_lost counts d ≡ false
  free d low = elim (same_or_not d number) [ inl here ↦ ap (λ k. is_lost counts k) here ∙ own | inr ne ↦ other d ne ∙ only.others d low ne ]

  counts_now : (d : ℕ) → is_lost (marked (unmarked marks number)) d ≡ is_lost counts d
  counts_now d = marked_is (unmarked marks number) d ∙ ap (λ (l : List ℕ). is_marked l d) (sym now_is) ∙ sym (counts_are d)

  counts_less : (d : ℕ) → is_lost (marked (unmarked marks number)) d ≡ false → is_lost counts d ≡ false
  counts_less d out = sym (counts_now d) ∙ out

  -- a vault that is ready, of which an image stands for the units with the new marks
  module _ (groups : Groups) (units : ℕ) (ready : Image) (empty : ready.journal ≡ []) (same : SameOn lost ready.cells before)
      (there : (x : Place) → is_lost counts x.drive ≡ false → is_some (held ready.cells x) ≡ is_some (held before x)) (verified : AreVerified groups drives units ready.cells) where
    abbrev replaced : (i : Image) → Matches counts (after (recovered ready) (table_write now ∷ [])) i → IsReplacedIn groups drives units number lost before i
    replaced i matches = record {
      marks = marks;
      table = table;
      wide = wide;
      only = only;
      ready = ready.cells;
      same = same;
      there = λ x low. there x (free x.drive low);
      verified = verified;
      matches = λ x out. matches x (counts_less x.drive out)
          ∙ ap (λ (c : Cells). held (after c (table_write now ∷ [])) x) (recovered_empty ready empty)
          ∙ ap (λ (l : List ℕ). held (after ready.cells (table_write l ∷ [])) x) now_is;
    }

    pub either : (i : Image) → IsBeforeOrAfter counts (recovered ready) (table_write now ∷ []) i → IsBeforeOrReplaced groups drives units number lost before i
    either i which = elim which [
      | inl was ↦ inl (λ x out. was x (lost_with.rest x.drive out) ∙ ap (λ (c : Cells). held c x) (recovered_empty ready empty) ∙ same x out)
      | inr is ↦ inr (replaced i is)
    ]

    pub is_replaced : {V : Type 0} (seen : V → Image) (may_leave : V → Stop → Image → Type 0) (moment : V → ℕ) (left_since : V → Stop → ℕ → Image → Type 0) (v : V)
        → Matches counts (after (recovered ready) (table_write now ∷ [])) (seen v) → AreLogged seen may_leave counts v → IsReplaced seen may_leave groups drives units number lost before v
    is_replaced seen may_leave moment left_since v matches logged = record {
      inside = replaced (seen v) matches;
      durable = logged_less seen may_leave moment left_since (marked (unmarked marks number)) counts v counts_less logged;
    }
