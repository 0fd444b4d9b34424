-- Places that hold zeros, as far as they hold anything: a site of such places is sound and blank.
use Rattle.std.proofs.Common.{◌≡◌, ℕ, zero, suc, ◌≤◌, inl, inr, Option, Some, None, List, length, refl, sym, ◌∙◌, ap, arith}
use Rattle.std.specs.Prelude.{slice_get, replicate}
use Rattle.std.proofs.lemmas.List.{length-replicate}
use Rattle.std.proofs.lemmas.Option.{same_Some, none-some}
use Rattle.extent_groups.specs.declared.place.Place.{Place}
use Rattle.extent_groups.specs.Cells.{Cells, held}
use Rattle.extent_groups.specs.Units.{Site, Pair, InStripe, plus, add, xor_total, put, others, or_else, held_in, row_of, unit_at, unit_in, IsSoundAt}
use Rattle.extent_groups.specs.Layout.{IsOf}
use Rattle.extent_groups.proofs.Places.{same_or_not}
use Rattle.extent_groups.proofs.ExclusiveOr.{plus-zeros}
use Rattle.extent_groups.proofs.Totals.{Row, put_same, put_other}

add_blank : (n : ℕ) (a b : Option (List ℕ)) (v : List ℕ) → ((u : List ℕ) → a ≡ Some u → u ≡ replicate n 0) → ((u : List ℕ) → b ≡ Some u → u ≡ replicate n 0) → add a b ≡ Some v → v ≡ replicate n 0
add_blank n None b v h k e = absurd (none-some v e)
add_blank n (Some u) None v h k e = absurd (none-some v e)
add_blank n (Some u) (Some w) v h k e =
    let fits : length (replicate {A = ℕ} n 0) ≤ n = omega (arith, length-replicate {A = ℕ} n 0) in
    sym (same_Some (plus u w) v e) ∙ ap (λ z. plus z w) (h u refl) ∙ ap (plus (replicate n 0)) (k w refl) ∙ plus-zeros n (replicate n 0) fits

total_blank : (n m : ℕ) (r : Row) → ((k : ℕ) (u : List ℕ) → r k ≡ Some u → u ≡ replicate n 0) → (v : List ℕ) → xor_total n m r ≡ Some v → v ≡ replicate n 0
total_blank n zero r h v e = sym (same_Some (replicate n 0) v e)
total_blank n (suc m) r h v e = add_blank n (r m) (xor_total n m r) v (h m) (total_blank n m r h) e

member_zero : (n : ℕ) (c : Cells) (o : Option Place) → ((p : Place) → o ≡ Some p → (u : List ℕ) → held c p ≡ Some u → u ≡ replicate n 0) → (u : List ℕ) → held_in c o ≡ Some u → u ≡ replicate n 0
member_zero n c None h u e = absurd (none-some u e)
member_zero n c (Some p) h u e = h p refl u e

put_zero : (n i : ℕ) (r : Row) → ((k : ℕ) (u : List ℕ) → r k ≡ Some u → u ≡ replicate n 0) → (k : ℕ) (u : List ℕ) → put r i (Some (replicate n 0)) k ≡ Some u → u ≡ replicate n 0
put_zero n i r h k u e = elim (same_or_not k i) [
  | inl q ↦ sym (same_Some (replicate n 0) u (sym (put_same r i (Some (replicate n 0))) ∙ ap (put r i (Some (replicate n 0))) (sym q) ∙ e))
  | inr ne ↦ h k u (sym (put_other r i k (Some (replicate n 0)) ne) ∙ e)
]

or_zero : (n : ℕ) (a b : Option (List ℕ)) → ((u : List ℕ) → a ≡ Some u → u ≡ replicate n 0) → ((u : List ℕ) → b ≡ Some u → u ≡ replicate n 0) → (v : List ℕ) → or_else a b ≡ Some v → v ≡ replicate n 0
or_zero n (Some u) b h k v e = h v e
or_zero n None b h k v e = k v e

-- a site whose places hold zeros, as far as they hold anything, is sound and blank
pub blank_site : (n : ℕ) (c : Cells) (t : Site) → ((p : Place) → IsOf t p → (u : List ℕ) → held c p ≡ Some u → u ≡ replicate n 0)
    → IsSoundAt n c t × ((v : List ℕ) → unit_at n c t ≡ Some v → v ≡ replicate n 0)
blank_site n c (Pair p q) h = (
  λ u v eu ev. h p (inl refl) u eu ∙ sym (h q (inr refl) v ev),
  or_zero n (held c p) (held c q) (h p (inl refl)) (h q (inr refl)),
)
blank_site n c (InStripe row parity i) h =
    let each : (k : ℕ) (u : List ℕ) → row_of c row k ≡ Some u → u ≡ replicate n 0 = λ k u e. member_zero n c (slice_get row k) (λ p at. h p (k, at)) u e in (
      total_blank n (length row) (row_of c row) each,
      or_zero n (row_of c row i) (others n (length row) (row_of c row) i) (each i) (total_blank n (length row) (put (row_of c row) i (Some (replicate n 0))) (put_zero n i (row_of c row) each)),
    )

-- the same, of an optional site
pub blank_in : (n : ℕ) (c : Cells) (o : Option Site) → ((site : Site) → o ≡ Some site → (v : List ℕ) → unit_at n c site ≡ Some v → v ≡ replicate n 0) → (v : List ℕ) → unit_in n c o ≡ Some v → v ≡ replicate n 0
blank_in n c None h v e = absurd (none-some v e)
blank_in n c (Some site) h v e = h site refl v e
