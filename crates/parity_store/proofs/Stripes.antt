-- The ways of a write, as what each leaves of the row and of all sites.
use Rattle.std.proofs.Common.{◌≡◌, ◌≢◌, ℕ, ◌<◌, inl, inr, Bool, true, false, Option, Some, None, List, length, refl, sym, ◌∙◌, ap, subst}
use Rattle.std.specs.Prelude.{slice_get, replicate}
use Rattle.std.specs.Bool.{MatchBool}
use Rattle.std.proofs.lemmas.List.{length-replicate}
use Rattle.std.proofs.lemmas.Option.{none-some}
use Rattle.extent_groups.specs.declared.place.Place.{Place}
use Rattle.extent_groups.specs.Cells.{Cells, held}
use Rattle.extent_groups.specs.Units.{Pair, InStripe, put, others, or_else, held_in, row_of, unit_at, IsSoundAt}
use Rattle.extent_groups.specs.Calls.{Fades, FadesAt, if_ok, DidRead}
use Rattle.extent_groups.specs.Stores.{IsOwn, LeavesSites}
use Rattle.extent_groups.proofs.Totals.{total_same, total_sized, put_sized, put_agrees}
use Rattle.extent_groups.proofs.Fading.{fades_trans, row_fades, row_sized}
use Rattle.extent_groups.proofs.RowWrites.{WritesRow, writes_faded, by_difference, data_alone, parity_alone, both_missing}
use Rattle.extent_groups.proofs.SlotWrites.{AreSizedCells, stripe_leaves}
use Rattle.parity_store.specs.Targets.{IsHome}
use Rattle.parity_store.specs.Ways.{bare, Added, Missed, Differs, ParityWritten}
use Rattle.parity_store.proofs.Sums.{row_same, sum_of_others}

pub drives_differ : (row : List Place) (p i : ℕ) (home parity : Place) → IsHome row p i home parity → home.drive ≢ parity.drive
drives_differ row p i home parity h e = h.whole.2 (h.whole.3 i p home parity h.home_is h.parity_is e)

-- another member is on another drive than these two
other_drive : (row : List Place) (p i k : ℕ) (home parity x : Place) → IsHome row p i home parity → k ≢ i → k ≢ p → slice_get row k ≡ Some x → (x.drive ≢ home.drive) × (x.drive ≢ parity.drive)
other_drive row p i k home parity x h ni np at = (λ e. ni (h.whole.3 k i x home at h.home_is e), λ e. np (h.whole.3 k p x parity at h.parity_is e))

member_elsewhere : (c new : Cells) (row : List Place) (p i k : ℕ) (home parity : Place) → IsHome row p i home parity → k ≢ i → k ≢ p
    → ((x : Place) → x.drive ≢ home.drive → x.drive ≢ parity.drive → held new x ≡ held c x) → (o : Option Place) → slice_get row k ≡ o → held_in c o ≡ held_in new o
member_elsewhere c new row p i k home parity h ni np same None at = refl
member_elsewhere c new row p i k home parity h ni np same (Some x) at =
    let d = other_drive row p i k home parity x h ni np at in sym (same x d.0 d.1)

row_elsewhere : (c new : Cells) (row : List Place) (p i : ℕ) (home parity : Place) → IsHome row p i home parity
    → ((x : Place) → x.drive ≢ home.drive → x.drive ≢ parity.drive → held new x ≡ held c x) → (k : ℕ) → k ≢ i → k ≢ p → row_of c row k ≡ row_of new row k
row_elsewhere c new row p i home parity h same k ni np = member_elsewhere c new row p i k home parity h ni np same (slice_get row k) refl

member_nearby : (c new : Cells) (row : List Place) (p i k : ℕ) (home parity : Place) → IsHome row p i home parity → k ≢ i → k ≢ p
    → ((x : Place) → x ≢ home → x ≢ parity → FadesAt c new x) → (o : Option Place) → slice_get row k ≡ o → Fades (held_in c o) (held_in new o)
member_nearby c new row p i k home parity h ni np fades None at = inl refl
member_nearby c new row p i k home parity h ni np fades (Some x) at =
    let d = other_drive row p i k home parity x h ni np at in
    fades x (λ e. d.0 (ap (λ (y : Place). y.drive) e)) (λ e. d.1 (ap (λ (y : Place). y.drive) e))

row_nearby : (c new : Cells) (row : List Place) (p i : ℕ) (home parity : Place) → IsHome row p i home parity
    → ((x : Place) → x ≢ home → x ≢ parity → FadesAt c new x) → (k : ℕ) → k ≢ i → k ≢ p → Fades (row_of c row k) (row_of new row k)
row_nearby c new row p i home parity h fades k ni np = member_nearby c new row p i k home parity h ni np fades (slice_get row k) refl

-- both written, or the unit alone
pub differs_row : (c new : Cells) (row : List Place) (p i : ℕ) (home parity : Place) (u : List ℕ) → IsHome row p i home parity → Differs c new home parity u
    → WritesRow (length u) (length row) (row_of c row) (row_of new row) i p u
differs_row c new row p i home parity u h d = elim d.there [
  | inl gone ↦ data_alone (length u) (length row) i p (row_of c row) (row_of new row) u h.whole.0 h.whole.1 (λ e. h.whole.2 (sym e))
      (ap (held_in new) h.home_is ∙ d.here) (ap (held_in new) h.parity_is ∙ gone) (row_nearby c new row p i home parity h d.nearby)
  | inr is ↦ by_difference (length u) (length row) i p (row_of c row) (row_of new row) is.0 is.1 u h.whole.0 h.whole.1 (λ e. h.whole.2 (sym e)) refl
      (ap (held_in c) h.home_is ∙ is.2) (ap (held_in c) h.parity_is ∙ is.3) (ap (held_in new) h.home_is ∙ d.here) (ap (held_in new) h.parity_is ∙ is.4)
      (row_elsewhere c new row p i home parity h d.elsewhere)
]

-- a place that a write may not touch is neither of the two
pub not_own : (row : List Place) (p i : ℕ) (home parity x : Place) → IsHome row p i home parity → (IsOwn (InStripe row p i) x → ⊥) → (x ≢ home) × (x ≢ parity)
not_own row p i home parity x h never = (λ e. never (inl (h.home_is ∙ ap (λ y. Some y) (sym e))), λ e. never (inr (h.parity_is ∙ ap (λ y. Some y) (sym e))))

pub differs_leaves : (c new : Cells) (row : List Place) (p i : ℕ) (home parity : Place) (u : List ℕ) → IsHome row p i home parity → AreSizedCells (length u) c
    → IsSoundAt (length u) c (InStripe row p i) → Differs c new home parity u → LeavesSites (length u) c new (InStripe row p i)
differs_leaves c new row p i home parity u h sized sound d =
    stripe_leaves (length u) c new row p i u sized (differs_row c new row p i home parity u h d) sound
    (λ x never. let both = not_own row p i home parity x h never in d.nearby x both.0 both.1)

-- a unit that is lost stays lost
pub stays_gone : (a b : Option (List ℕ)) → Fades a b → a ≡ None → b ≡ None
stays_gone a b (inl same) e = same ∙ e
stays_gone a b (inr gone) e = gone

-- what is left has the size that it had
faded_size : (n : ℕ) (a b : Option (List ℕ)) → Fades a b → ((u : List ℕ) → a ≡ Some u → length u ≡ n) → (v : List ℕ) → b ≡ Some v → length v ≡ n
faded_size n a b (inl same) h v e = h v (sym same ∙ e)
faded_size n a b (inr gone) h v e = absurd (none-some v (sym gone ∙ e))

-- the parity alone, after the unit's drive was found lost
pub parity_row : (c two new : Cells) (row : List Place) (p i : ℕ) (home parity : Place) (u : List ℕ) → IsHome row p i home parity → AreSizedCells (length u) c
    → ((x : Place) → FadesAt c two x) → held two home ≡ None → ParityWritten (length u) two new row i p u
    → WritesRow (length u) (length row) (row_of c row) (row_of new row) i p u
parity_row c two new row p i home parity u h sized fades gone w =
    let n = length u in
    let rows = row_fades c two row (λ k x at. fades x) in
    let sizes : (k : ℕ) (v : List ℕ) → row_of two row k ≡ Some v → length v ≡ n = λ k v e. faded_size n (row_of c row k) (row_of two row k) (rows k) (row_sized n c row sized k) v e in
    let long : length (w.there.0) ≡ n =
    total_sized n (length row) (bare n (row_of two row) i p) (put_sized n p (put (row_of two row) i (Some (replicate n 0))) (put_sized n i (row_of two row) sizes)) w.there.0 w.there.1 in
    let lost : row_of new row i ≡ None = ap (held_in new) h.home_is ∙ w.elsewhere home parity h.parity_is (drives_differ row p i home parity h) ∙ gone in
    writes_faded n (length row) (row_of c row) (row_of two row) (row_of new row) i p u (row_sized n c row sized) rows
    (parity_alone n (length row) i p (row_of two row) (row_of new row) u w.there.0 h.whole.0 h.whole.1 (λ e. h.whole.2 (sym e)) refl long w.there.1 lost w.there.2
    (row_elsewhere two new row p i home parity h (λ x nh np. w.elsewhere x parity h.parity_is np)))

pub parity_leaves : (c two new : Cells) (row : List Place) (p i : ℕ) (home parity : Place) (u : List ℕ) → IsHome row p i home parity → AreSizedCells (length u) c
    → IsSoundAt (length u) c (InStripe row p i) → ((x : Place) → FadesAt c two x) → held two home ≡ None → ParityWritten (length u) two new row i p u
    → LeavesSites (length u) c new (InStripe row p i)
parity_leaves c two new row p i home parity u h sized sound fades gone w =
    stripe_leaves (length u) c new row p i u sized (parity_row c two new row p i home parity u h sized fades gone w) sound
    (λ x never. fades_trans (held c x) (held two x) (held new x) (fades x) (w.nearby x (λ e. never (inr e))))

-- a unit whose drive is lost: rebuilt from all others, or not there
pub rebuilt : (n : ℕ) (c one two : Cells) (row : List Place) (p i : ℕ) (home : Place) (u v : List ℕ) (ok : Bool) → i < length row → slice_get row i ≡ Some home → DidRead c one home u false
    → MatchBool ok (Added n one two row i i (replicate n 0) v) (Missed one two row i i)
    → unit_at n two (InStripe row p i) ≡ if_ok ok v
rebuilt n c one two row p i home u v true low at r added =
    let lost : row_of two row i ≡ None = row_same one two row added.same i ∙ ap (held_in one) at ∙ r.here in
    let same : others n (length row) (row_of two row) i ≡ others n (length row) (row_of one row) i =
    total_same n (length row) _ _ (λ k h. put_agrees (row_of two row) (row_of one row) i (Some (replicate n 0)) k (λ _. row_same one two row added.same k)) in
    ap (λ a. or_else a (others n (length row) (row_of two row) i)) lost ∙ same ∙ sum_of_others n (length row) (row_of one row) i v added.sum
rebuilt n c one two row p i home u v false low at r missed =
    let lost : row_of two row i ≡ None = ap (held_in two) at ∙ stays_gone (held one home) (held two home) (missed.fades home) r.here in
    both_missing n (length row) i missed.missing.0 (row_of two row) missed.missing.1 missed.missing.2 lost missed.missing.4

-- the two places of a difference are those of a write
pub own_pair : (row : List Place) (p i : ℕ) (home parity : Place) → slice_get row i ≡ Some home → slice_get row p ≡ Some parity → (x : Place) → IsOwn (Pair home parity) x → IsOwn (InStripe row p i) x
own_pair row p i home parity h q x (inl e) = inl (h ∙ ap (λ y. Some y) (sym e))
own_pair row p i home parity h q x (inr e) = inr (q ∙ ap (λ y. Some y) (sym e))

-- a sum that began with zeros
pub from_zeros : (n : ℕ) (one two : Cells) (row : List Place) (i : ℕ) (z v : List ℕ) (ok : Bool) → z ≡ replicate n 0
    → MatchBool ok (Added (length z) one two row i i z v) (Missed one two row i i) → MatchBool ok (Added n one two row i i (replicate n 0) v) (Missed one two row i i)
from_zeros n one two row i z v ok e outcome =
    subst (λ m. MatchBool ok (Added m one two row i i (replicate n 0) v) (Missed one two row i i)) (length-replicate {A = ℕ} n 0)
    (subst (λ w. MatchBool ok (Added (length w) one two row i i w v) (Missed one two row i i)) e outcome)
