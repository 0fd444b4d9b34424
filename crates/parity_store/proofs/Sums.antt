-- The sum of the other members of a row, one after another.
use Rattle.std.proofs.Common.{◌≡◌, ◌≢◌, ℕ, zero, suc, ◌+◌, ◌<◌, inl, inr, ◌≤◌, true, false, Option, Some, None, List, [], ◌∷◌, length, refl, sym, ◌∙◌, ap, arith, get_or}
use Rattle.std.specs.Prelude.{replicate, slice_get}
use Rattle.std.proofs.lemmas.Option.{same_Some, none-some}
use Rattle.extent_groups.specs.declared.place.Place.{Place}
use Rattle.extent_groups.specs.Cells.{Cells, held}
use Rattle.extent_groups.specs.Units.{plus, add, put, xor_total, others, held_in, row_of}
use Rattle.extent_groups.specs.Calls.{DidRead}
use Rattle.extent_groups.proofs.Places.{same_or_not}
use Rattle.extent_groups.proofs.ExclusiveOr.{plus-comm, plus-zeros, add-comm, add-assoc, add-zeros}
use Rattle.extent_groups.proofs.Totals.{Row, put_same, put_other, total_same, length-xor_total}
use Rattle.extent_groups.proofs.Fading.{fades_trans}
use Rattle.parity_store.specs.Ways.{bare, AddedOne, Missed}

member_same : (c new : Cells) (o : Option Place) → ((x : Place) → held new x ≡ held c x) → held_in new o ≡ held_in c o
member_same c new None h = refl
member_same c new (Some x) h = h x

-- a row of which no place is different
pub row_same : (c new : Cells) (row : List Place) → ((x : Place) → held new x ≡ held c x) → (k : ℕ) → row_of new row k ≡ row_of c row k
row_same c new row h k = member_same c new (slice_get row k) h

-- a member of a bare row
pub bare_first : (n : ℕ) (r : Row) (i p : ℕ) → bare n r i p i ≡ Some (replicate n 0)
bare_first n r i p = elim (same_or_not i p) [
  | inl e ↦ ap (bare n r i p) e ∙ put_same (put r i (Some (replicate n 0))) p (Some (replicate n 0))
  | inr ne ↦ put_other (put r i (Some (replicate n 0))) p i _ ne ∙ put_same r i _
]

pub bare_second : (n : ℕ) (r : Row) (i p : ℕ) → bare n r i p p ≡ Some (replicate n 0)
bare_second n r i p = put_same (put r i (Some (replicate n 0))) p (Some (replicate n 0))

pub bare_other : (n : ℕ) (r : Row) (i p k : ℕ) → k ≢ i → k ≢ p → bare n r i p k ≡ r k
bare_other n r i p k ni np = put_other (put r i (Some (replicate n 0))) p k _ np ∙ put_other r i k _ ni

pub bare_same : (n : ℕ) (r s : Row) (i p k : ℕ) → r k ≡ s k → bare n r i p k ≡ bare n s i p k
bare_same n r s i p k e = elim (same_or_not k p) [
  | inl q ↦ ap (bare n r i p) q ∙ bare_second n r i p ∙ sym (bare_second n s i p) ∙ ap (bare n s i p) (sym q)
  | inr np ↦ elim (same_or_not k i) [
    | inl q ↦ ap (bare n r i p) q ∙ bare_first n r i p ∙ sym (bare_first n s i p) ∙ ap (bare n s i p) (sym q)
    | inr ni ↦ bare_other n r i p k ni np ∙ e ∙ sym (bare_other n s i p k ni np)
  ]
]

-- a member that is skipped adds nothing
pub passed_first : (c : Cells) (row : List Place) (i p k : ℕ) (s : List ℕ) → k ≡ i → AddedOne (length s) c c row i p k s s
passed_first c row i p k s e = record {
  same = λ x. refl;
  sum = ap (λ j. add (Some s) (bare (length s) (row_of c row) i p j)) e ∙ ap (add (Some s)) (bare_first (length s) (row_of c row) i p)
      ∙ ap (λ t. Some t) (plus-comm s (replicate (length s) 0) ∙ plus-zeros (length s) s (let fits : length s ≤ length s = omega arith in fits));
}

pub passed_second : (c : Cells) (row : List Place) (i p k : ℕ) (s : List ℕ) → k ≡ p → AddedOne (length s) c c row i p k s s
passed_second c row i p k s e = record {
  same = λ x. refl;
  sum = ap (λ j. add (Some s) (bare (length s) (row_of c row) i p j)) e ∙ ap (add (Some s)) (bare_second (length s) (row_of c row) i p)
      ∙ ap (λ t. Some t) (plus-comm s (replicate (length s) 0) ∙ plus-zeros (length s) s (let fits : length s ≤ length s = omega arith in fits));
}

-- a member that was read and added
pub added_one : (c new : Cells) (row : List Place) (i p k : ℕ) (x : Place) (u s t : List ℕ) → k ≢ i → k ≢ p → slice_get row k ≡ Some x → DidRead c new x u true → t ≡ plus s u
    → AddedOne (length s) c new row i p k s t
added_one c new row i p k x u s t ni np at read e = record {
  same = read.same refl;
  sum = ap (add (Some s)) (bare_other (length s) (row_of c row) i p k ni np ∙ ap (held_in c) at ∙ sym (read.same refl x) ∙ read.here) ∙ ap (λ z. Some z) (sym e);
}

pub missed_one : (c new : Cells) (row : List Place) (i p k : ℕ) (x : Place) (u : List ℕ) → k < length row → k ≢ i → k ≢ p → slice_get row k ≡ Some x → DidRead c new x u false
    → Missed c new row i p
missed_one c new row i p k x u low ni np at read = record { fades = read.fades; missing = (k, low, ni, np, ap (held_in new) at ∙ read.here) }

-- the sum so far
pub sum_more : (c now : Cells) (row : List Place) (n i p k j : ℕ) (before so_far after : List ℕ) → j ≡ k + 1 → ((x : Place) → held now x ≡ held c x)
    → add (Some before) (xor_total n k (bare n (row_of c row) i p)) ≡ Some so_far → add (Some so_far) (bare n (row_of now row) i p k) ≡ Some after
    → add (Some before) (xor_total n j (bare n (row_of c row) i p)) ≡ Some after
sum_more c now row n i p k zero before so_far after e same sum one = absurd (omega arith)
sum_more c now row n i p k (suc j) before so_far after e same sum one =
    let is : j ≡ k = omega arith in
    let r = bare n (row_of c row) i p in
    ap (λ m. add (Some before) (add (r m) (xor_total n m r))) is
    ∙ ap (add (Some before)) (add-comm (r k) (xor_total n k r))
    ∙ sym (add-assoc (Some before) (xor_total n k r) (r k))
    ∙ ap (λ a. add a (r k)) sum
    ∙ ap (add (Some so_far)) (sym (bare_same n (row_of now row) (row_of c row) i p k (row_same c now row same k)))
    ∙ one

pub missed_after : (c now new : Cells) (row : List Place) (i p : ℕ) → ((x : Place) → held now x ≡ held c x) → Missed now new row i p → Missed c new row i p
missed_after c now new row i p same missed = record {
  fades = λ x. fades_trans (held c x) (held now x) (held new x) (inl (same x)) (missed.fades x);
  missing = missed.missing;
}

-- where a unit and a rest have a sum, the rest exists and the sum is that of both
sum_of : (u s : List ℕ) (rest : Option (List ℕ)) → add (Some u) rest ≡ Some s → (x : List ℕ) × (rest ≡ Some x) × (s ≡ plus u x)
sum_of u s None e = absurd (none-some s e)
sum_of u s (Some x) e = (x, refl, sym (same_Some _ _ e))

pub sum_is : (n m : ℕ) (r : Row) (i p : ℕ) (u s : List ℕ) → add (Some u) (xor_total n m (bare n r i p)) ≡ Some s → (x : List ℕ) × (xor_total n m (bare n r i p) ≡ Some x) × (s ≡ plus u x)
sum_is n m r i p u s e = sum_of u s (xor_total n m (bare n r i p)) e

-- one member skipped
pub others_bare : (n m : ℕ) (r : Row) (i : ℕ) → xor_total n m (bare n r i i) ≡ others n m r i
others_bare n m r i = total_same n m (bare n r i i) (put r i (Some (replicate n 0))) (λ k low. elim (same_or_not k i) [
  | inl e ↦ ap (bare n r i i) e ∙ bare_first n r i i ∙ sym (put_same r i _) ∙ ap (put r i (Some (replicate n 0))) (sym e)
  | inr ne ↦ bare_other n r i i k ne ne ∙ sym (put_other r i k _ ne)
])

-- the sum of zeros and all others is that of all others
pub sum_of_others : (n m : ℕ) (r : Row) (i : ℕ) (s : List ℕ) → add (Some (replicate n 0)) (xor_total n m (bare n r i i)) ≡ Some s → others n m r i ≡ Some s
sum_of_others n m r i s e =
    sym (others_bare n m r i) ∙ sym (add-zeros n (xor_total n m (bare n r i i)) (length-xor_total n m (bare n r i i))) ∙ e

-- nothing is added yet
pub sum_begun : (s : List ℕ) (r : Row) (i p : ℕ) → add (Some s) (xor_total (length s) 0 (bare (length s) r i p)) ≡ Some s
sum_begun s r i p = ap (λ t. Some t) (plus-comm s (replicate (length s) 0) ∙ plus-zeros (length s) s (let fits : length s ≤ length s = omega arith in fits))

-- bytes that are all zero
pub all_zero : (n : ℕ) (xs : List ℕ) → length xs ≡ n → ((k : ℕ) → k < n → get_or xs k 0 ≡ 0) → xs ≡ replicate n 0
all_zero zero [] e h = refl
all_zero zero (x ∷ xs) e h = absurd (omega arith)
all_zero (suc n) [] e h = absurd (omega arith)
all_zero (suc n) (x ∷ xs) e h = ap (λ b. b ∷ xs) (h 0 (omega arith)) ∙ ap (λ t. 0 ∷ t) (all_zero n xs (omega arith) (λ k low. h (suc k) (omega arith)))
