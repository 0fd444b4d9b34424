-- The exclusive or of a row: one member or two taken out, a member that is missing, rows that agree.
use Rattle.std.proofs.Common.{◌≡◌, ◌≢◌, ℕ, zero, suc, ◌<◌, ◌≤◌, inl, inr, Option, Some, None, List, length, refl, sym, ◌∙◌, ap, arith, if◌then◌else◌}
use Rattle.std.specs.Prelude.{replicate, bit_xor}
use Rattle.std.proofs.lemmas.Simd.{length-zip2}
use Rattle.std.proofs.lemmas.Bool.{eq-eqb, ne_eqb}
use Rattle.std.proofs.lemmas.List.{length-replicate}
use Rattle.std.proofs.lemmas.Option.{same_Some, none-some}
use Rattle.extent_groups.specs.Units.{plus, add, xor_total, put, others}
use Rattle.extent_groups.proofs.Places.{same_or_not}
use Rattle.extent_groups.proofs.ExclusiveOr.{length-plus, add_swap, add-zeros}

-- a row: what each member holds
abbrev pub Row : Type 0
Row = ℕ → Option (List ℕ)

pub put_same : (r : Row) (i : ℕ) (x : Option (List ℕ)) → put r i x i ≡ x
put_same r i x = ap (λ b. if b then x else r i) (eq-eqb i i refl)

pub put_other : (r : Row) (i k : ℕ) (x : Option (List ℕ)) → k ≢ i → put r i x k ≡ r k
put_other r i k x ne = ap (λ b. if b then x else r k) (ne_eqb k i ne)

-- rows that agree below m
pub total_same : (n m : ℕ) (r s : Row) → ((k : ℕ) → k < m → r k ≡ s k) → xor_total n m r ≡ xor_total n m s
total_same n zero r s h = refl
total_same n (suc m) r s h = ap (λ x. add x (xor_total n m r)) (h m (omega arith)) ∙ ap (add (s m)) (total_same n m r s (λ k lt. h k (omega arith)))

length-add : (a b : Option (List ℕ)) (n : ℕ) (v : List ℕ) → ((w : List ℕ) → b ≡ Some w → length w ≤ n) → add a b ≡ Some v → length v ≤ n
length-add None b n v h e = absurd (none-some v e)
length-add (Some u) None n v h e = absurd (none-some v e)
length-add (Some u) (Some w) n v h e = let same : plus u w ≡ v = same_Some _ _ e in omega (arith, ap length same, length-plus u w, h w refl)

pub length-xor_total : (n m : ℕ) (r : Row) (v : List ℕ) → xor_total n m r ≡ Some v → length v ≤ n
length-xor_total n zero r v e = let same : replicate n 0 ≡ v = same_Some _ _ e in omega (arith, ap length same, length-replicate {A = ℕ} n 0)
length-xor_total n (suc m) r v e = length-add (r m) (xor_total n m r) n v (λ w f. length-xor_total n m r w f) e

-- one member taken out
pub total_split : (n m i : ℕ) (r : Row) → i < m → xor_total n m r ≡ add (r i) (others n m r i)
total_split n zero i r h = absurd (omega arith)
total_split n (suc m) i r h = elim (same_or_not i m) [
  | inl e ↦
      (let rest : others n m r i ≡ xor_total n m r = total_same n m (put r i (Some (replicate n 0))) r (λ k lt. put_other r i k _ (λ same. omega arith)) in
      let blank : put r i (Some (replicate n 0)) m ≡ Some (replicate n 0) = ap (put r i (Some (replicate n 0))) (sym e) ∙ put_same r i _ in
      let all : others n (suc m) r i ≡ xor_total n m r =
      ap (λ x. add x (others n m r i)) blank ∙ ap (add (Some (replicate n 0))) rest ∙ add-zeros n (xor_total n m r) (λ v f. length-xor_total n m r v f) in
      ap (λ k. add (r k) (xor_total n m r)) (sym e) ∙ ap (add (r i)) (sym all))
  | inr ne ↦
      (let below : i < m = omega arith in
      let past : put r i (Some (replicate n 0)) m ≡ r m = put_other r i m _ (λ e. ne (sym e)) in
      ap (add (r m)) (total_split n m i r below) ∙ add_swap (r m) (r i) (others n m r i) ∙ ap (λ x. add (r i) (add x (others n m r i))) (sym past))
]

-- all members but two: both count as zeros
abbrev pub rest_of : ℕ → ℕ → Row → ℕ → ℕ → Option (List ℕ)
rest_of n m r i p = others n m (put r i (Some (replicate n 0))) p

-- two members taken out
pub others_split : (n m i p : ℕ) (r : Row) → p < m → p ≢ i → others n m r i ≡ add (r p) (rest_of n m r i p)
others_split n m i p r h ne = total_split n m p (put r i (Some (replicate n 0))) h ∙ ap (λ x. add x (rest_of n m r i p)) (put_other r i p _ ne)

pub total_two : (n m i p : ℕ) (r : Row) → i < m → p < m → p ≢ i → xor_total n m r ≡ add (r i) (add (r p) (rest_of n m r i p))
total_two n m i p r hi hp ne = total_split n m i r hi ∙ ap (add (r i)) (others_split n m i p r hp ne)

-- a member that is missing
pub total_missing : (n m q : ℕ) (r : Row) → q < m → r q ≡ None → xor_total n m r ≡ None
total_missing n m q r h e = total_split n m q r h ∙ ap (λ x. add x (others n m r q)) e

pub others_missing : (n m i q : ℕ) (r : Row) → q < m → q ≢ i → r q ≡ None → others n m r i ≡ None
others_missing n m i q r h ne e = total_missing n m q (put r i (Some (replicate n 0))) h (put_other r i q _ ne ∙ e)

-- rows that agree but at two members
pub put_agrees : (r s : Row) (i : ℕ) (x : Option (List ℕ)) (k : ℕ) → (k ≢ i → r k ≡ s k) → put r i x k ≡ put s i x k
put_agrees r s i x k h = elim (same_or_not k i) [
  | inl e ↦ ap (put r i x) e ∙ put_same r i x ∙ sym (put_same s i x) ∙ ap (put s i x) (sym e)
  | inr ne ↦ put_other r i k x ne ∙ h ne ∙ sym (put_other s i k x ne)
]

pub rest_same : (n m i p : ℕ) (r s : Row) → ((k : ℕ) → k < m → k ≢ i → k ≢ p → r k ≡ s k) → rest_of n m r i p ≡ rest_of n m s i p
rest_same n m i p r s h =
    total_same n m _ _ (λ k lt. put_agrees (put r i (Some (replicate n 0))) (put s i (Some (replicate n 0))) p (Some (replicate n 0)) k
    (λ np. put_agrees r s i (Some (replicate n 0)) k (λ ni. h k lt ni np)))

-- of units that all have n bytes the sum has n bytes too
add_sized : (a b : Option (List ℕ)) (n : ℕ) (v : List ℕ) → ((u : List ℕ) → a ≡ Some u → length u ≡ n) → ((w : List ℕ) → b ≡ Some w → length w ≡ n) → add a b ≡ Some v → length v ≡ n
add_sized None b n v h k e = absurd (none-some v e)
add_sized (Some u) None n v h k e = absurd (none-some v e)
add_sized (Some u) (Some w) n v h k e =
    let same : length u ≡ length w = h u refl ∙ sym (k w refl) in
    ap length (sym (same_Some (plus u w) v e)) ∙ length-zip2 bit_xor u w same ∙ h u refl

pub total_sized : (n m : ℕ) (r : Row) → ((k : ℕ) (u : List ℕ) → r k ≡ Some u → length u ≡ n) → (v : List ℕ) → xor_total n m r ≡ Some v → length v ≡ n
total_sized n zero r sized v e = ap length (sym (same_Some (replicate n 0) v e)) ∙ length-replicate {A = ℕ} n 0
total_sized n (suc m) r sized v e = add_sized (r m) (xor_total n m r) n v (sized m) (total_sized n m r sized) e

-- a row with zeros for one member
pub put_sized : (n i : ℕ) (r : Row) → ((k : ℕ) (u : List ℕ) → r k ≡ Some u → length u ≡ n) → (k : ℕ) (u : List ℕ) → put r i (Some (replicate n 0)) k ≡ Some u → length u ≡ n
put_sized n i r sized k u e = elim (same_or_not k i) [
  | inl q ↦ ap length (sym (same_Some (replicate n 0) u (sym (put_same r i (Some (replicate n 0))) ∙ ap (put r i (Some (replicate n 0))) (sym q) ∙ e))) ∙ length-replicate {A = ℕ} n 0
  | inr ne ↦ sized k u (sym (put_other r i k (Some (replicate n 0)) ne) ∙ e)
]
