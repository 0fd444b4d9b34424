-- The hands of all that ended, compared with the history.
use Rattle.std.proofs.Common.{◌≡◌, ◌≢◌, ◌⊎◌, ℕ, ◌+◌, ◌<◌, ◌≤◌, zero, suc, List, [], ◌∷◌, length, map, Bool, true, false, eq-eqb, Option, Some, None, refl, sym, ap, ◌∙◌, subst, inl, inr, arith}
use Rattle.std.specs.Prelude.{◌==◌, ◌||◌}
use Rattle.std.specs.List.{list_any}
use Rattle.history.specs.declared.view.Entry.{Entry}
use Rattle.history.specs.Entries.{Carried, Course, cons_if, entries_by}
use Rattle.slot_tables.specs.Views.{ArrayView, IsWhole as HasAll}
use Rattle.array_book.specs.Acts.{Act, IsEndOf}
use Rattle.array_book.specs.Whole.{AreWhole, has_number, AreTheirs, IsLowestMissing, IsMissing, IsHistoryOf}
use Rattle.array_book.specs.OneRun.{IsOneRun}
use Rattle.array_book.proofs.Lying.{reads_through}
use Rattle.array_book.proofs.OneRuns.{one_run}

-- a number is below the number of those that were hired, or not
below_or : (n hired : ℕ) → (n < hired) ⊎ (hired ≤ n)
below_or n zero = inr (omega arith)
below_or zero (suc hired) = inl (omega arith)
below_or (suc n) (suc hired) = elim (below_or n hired) [ inl low ↦ inl (omega (arith, low)) | inr high ↦ inr (omega (arith, high)) ]

-- an entry more is no empty list
some_more : (e : Entry Act) (es : List (Entry Act)) → e ∷ es ≡ [] → ⊥
some_more e es none = let long : suc (length es) ≡ 0 = ap length none in omega (arith, long)

-- where a hand has no entry, it has none of the first and none of the others
not_by : (n : ℕ) (b : Bool) (e : Entry Act) (es : List (Entry Act)) → cons_if b e es ≡ [] → (b ≡ false) × (es ≡ [])
not_by n true e es none = absurd (some_more e es none)
not_by n false e es none = (refl, none)

-- no entry is of a hand that wasn't hired, and all that were hired are here
all_theirs : (hired : ℕ) (hands : List (Carried Act)) (log : List (Entry Act)) → ((n : ℕ) → n < hired → has_number hands n ≡ true) → ((n : ℕ) → hired ≤ n → entries_by n log ≡ []) → AreTheirs log hands
all_theirs hired hands [] here within = tt
all_theirs hired hands (e ∷ es) here within =
    let own : hired ≤ e.by → ⊥ = λ high. some_more e (entries_by e.by es) (ap (λ b. cons_if b e (entries_by e.by es)) (sym (eq-eqb e.by e.by refl)) ∙ within e.by high) in (
      elim (below_or e.by hired) [ inl low ↦ here e.by low | inr high ↦ absurd (own high) ],
      all_theirs hired hands es here (λ n high. (not_by n (e.by == n) e (entries_by n es) (within n high)).1),
    )

-- no entry is of a hand that wasn't hired, by what any of these hands is told
within_of : (keeper : Course Act) (hands : List (Carried Act)) → AreWhole keeper hands → hands ≢ [] → (n : ℕ) → keeper.hired ≤ n → entries_by n keeper.log ≡ []
within_of keeper [] whole some n high = absurd (some refl)
within_of keeper (hand ∷ hands) whole some n high = whole.0.within n high

-- where all that were hired are here, every entry is one of theirs
missing_of : (keeper : Course Act) (hands : List (Carried Act)) (r : Option ℕ) → AreWhole keeper hands → IsLowestMissing keeper.hired hands r → IsMissing keeper hands r
missing_of keeper hands None whole lowest = (lowest, all_theirs keeper.hired hands keeper.log lowest.1 (within_of keeper hands whole lowest.0))
missing_of keeper hands (Some n) whole lowest = (lowest, tt)

-- and so after all were compared, which changes nothing
pub missing_after : {T : Type 0} (hand_of : T → Carried Act) (all came : List T) (before after : Course Act) (hired : ℕ) (r : Option ℕ) → after ≡ before → hired ≡ before.hired → came ≡ all
    → AreWhole before (map hand_of all) → IsLowestMissing hired (map hand_of came) r → IsMissing after (map hand_of all) r
missing_after {T} hand_of all came before after hired r same number are whole lowest =
    let here = subst (λ (l : List T). IsLowestMissing hired (map hand_of l) r) are lowest in
    let now = subst (λ (n : ℕ). IsLowestMissing n (map hand_of all) r) number here in
    subst (λ (k : Course Act). IsMissing k (map hand_of all) r) (sym same) (missing_of before (map hand_of all) r whole now)

-- a hand is found where it is one of those that were joined
pub has_map : {T : Type 0} (hand_of : T → Carried Act) (xs : List T) (n : ℕ) → list_any (λ x. (hand_of x).number == n) xs ≡ has_number (map hand_of xs) n
has_map hand_of [] n = refl
has_map hand_of (x ∷ xs) n = ap (λ b. ((hand_of x).number == n) || b) (has_map hand_of xs n)

-- one number more is a hand's
pub up_to : (hands : List (Carried Act)) (k : ℕ) → ((n : ℕ) → n < k → has_number hands n ≡ true) → has_number hands k ≡ true → (n : ℕ) → n < k + 1 → has_number hands n ≡ true
up_to hands k here next n low = elim (below_or n k) [
  | inl less ↦ here n less
  | inr high ↦ let same : k ≡ n = omega (arith, low, high) in subst (λ (m : ℕ). has_number hands m ≡ true) same next
]

-- all of it, of the hands that were compared
pub history_of : (count : ℕ) (hands : List (Carried Act)) (before after : Course Act) (array : ArrayView) → after ≡ before → IsEndOf before.log array → HasAll array → AreWhole before hands
    → before.hired ≡ count → IsHistoryOf count hands after array
history_of count hands before after array same ends well whole hired = subst (λ (k : Course Act). IsHistoryOf count hands k array) (sym same) record {
  ends = ends;
  one = one;
  reads = λ b. reads_through array one.last b well one.shows;
  whole = whole;
  hired = hired;
}
  where
    one : IsOneRun before.log array
    one = one_run before.log array ends
