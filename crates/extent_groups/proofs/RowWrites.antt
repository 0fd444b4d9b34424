-- A member of a row is written: with the parity by difference, alone, or as the parity alone.
use Rattle.std.proofs.Common.{◌≡◌, ◌≢◌, ℕ, ◌<◌, ◌≤◌, Option, Some, None, List, length, refl, sym, ◌∙◌, ap, arith}
use Rattle.std.specs.Prelude.{replicate}
use Rattle.std.proofs.lemmas.Option.{none-some}
use Rattle.extent_groups.specs.Units.{plus, add, xor_total, put, others, or_else}
use Rattle.extent_groups.specs.Calls.{Fades}
use Rattle.extent_groups.proofs.ExclusiveOr.{plus-comm, plus_difference, plus_twice}
use Rattle.extent_groups.proofs.Totals.{Row, put_other, total_two, others_split, rest_of, rest_same, total_missing, others_missing, length-xor_total, put_agrees}
use Rattle.extent_groups.proofs.Fading.{RowFades, IsSoundRow, effective, faded, fade_effective, fade_sound}

-- what a write of member i, whose parity is member p, leaves of a row: the unit is its effective one, every other member's that exists afterwards is what it was, and a sound row is sound
pub record WritesRow (n m : ℕ) (r s : Row) (i p : ℕ) (u : List ℕ) : Type 0 where
  pub unit : effective n m s i ≡ Some u
  pub others : IsSoundRow n m r → (j : ℕ) → j < m → j ≢ i → j ≢ p → (v : List ℕ) → effective n m s j ≡ Some v → effective n m r j ≡ Some v
  pub sound : IsSoundRow n m r → IsSoundRow n m s

-- a loss before the write changes nothing of this
pub writes_faded : (n m : ℕ) (r s t : Row) (i p : ℕ) (u : List ℕ) → ((k : ℕ) (w : List ℕ) → r k ≡ Some w → length w ≡ n) → RowFades r s → WritesRow n m s t i p u → WritesRow n m r t i p u
writes_faded n m r s t i p u sized fades w = record {
  unit = w.unit;
  others = λ sound j low ni np v e. fade_effective n m j r s low (sized j) sound fades v (w.others (fade_sound n m r s sound fades) j low ni np v e);
  sound = λ sound. w.sound (fade_sound n m r s sound fades);
}

-- the two sides of a difference
difference : (d q u : List ℕ) (rest : Option (List ℕ)) → ((v : List ℕ) → rest ≡ Some v → length v ≤ length u)
    → add (Some u) (add (Some (plus (plus q d) u)) rest) ≡ add (Some d) (add (Some q) rest)
difference d q u None h = refl
difference d q u (Some r) h = ap (λ t. Some t) (plus_difference d q u r (h r refl))

-- a row with a unit and its parity's difference has the total that it had
total_replaced : (n m i p : ℕ) (r s : Row) (d q u : List ℕ) → i < m → p < m → p ≢ i → length u ≡ n → r i ≡ Some d → r p ≡ Some q → s i ≡ Some u → s p ≡ Some (plus (plus q d) u)
    → ((k : ℕ) → k ≢ i → k ≢ p → r k ≡ s k) → xor_total n m s ≡ xor_total n m r
total_replaced n m i p r s d q u hi hp ne size rd rq su sq same =
    let rest : rest_of n m s i p ≡ rest_of n m r i p = sym (rest_same n m i p r s (λ k _ ni np. same k ni np)) in
    let short : (v : List ℕ) → rest_of n m r i p ≡ Some v → length v ≤ length u = λ v e. omega (arith, length-xor_total n m _ v e, size) in
    total_two n m i p s hi hp ne
    ∙ ap (λ a. add a (add (s p) (rest_of n m s i p))) su
    ∙ ap (λ a. add (Some u) (add a (rest_of n m s i p))) sq
    ∙ ap (λ a. add (Some u) (add (Some (plus (plus q d) u)) a)) rest
    ∙ difference d q u (rest_of n m r i p) short
    ∙ ap (λ a. add a (add (Some q) (rest_of n m r i p))) (sym rd)
    ∙ ap (λ a. add (r i) (add a (rest_of n m r i p))) (sym rq)
    ∙ sym (total_two n m i p r hi hp ne)

-- both are written
pub by_difference : (n m i p : ℕ) (r s : Row) (d q u : List ℕ) → i < m → p < m → p ≢ i → length u ≡ n → r i ≡ Some d → r p ≡ Some q → s i ≡ Some u → s p ≡ Some (plus (plus q d) u)
    → ((k : ℕ) → k ≢ i → k ≢ p → r k ≡ s k) → WritesRow n m r s i p u
by_difference n m i p r s d q u hi hp ne size rd rq su sq same = record {
  unit = ap (λ a. or_else a (others n m s i)) su;
  others = λ sound j low ni np v e.
      (let blank : Option (List ℕ) = Some (replicate n 0) in
      let rest : others n m s j ≡ others n m r j =
      total_replaced n m i p (put r j blank) (put s j blank) d q u hi hp ne size
      (put_other r j i blank (λ q. ni (sym q)) ∙ rd) (put_other r j p blank (λ q. np (sym q)) ∙ rq)
      (put_other s j i blank (λ q. ni (sym q)) ∙ su) (put_other s j p blank (λ q. np (sym q)) ∙ sq)
      (λ k ki kp. put_agrees r s j blank k (λ _. same k ki kp)) in
      ap (λ a. or_else a (others n m r j)) (same j ni np) ∙ ap (or_else (s j)) (sym rest) ∙ e);
  sound = λ sound v e. sound v (sym (total_replaced n m i p r s d q u hi hp ne size rd rq su sq same) ∙ e);
}

only_own : (a b c : Option (List ℕ)) (v : List ℕ) → b ≡ None → or_else a b ≡ Some v → a ≡ Some v
only_own None b c v gone e = sym gone ∙ e
only_own (Some u) b c v gone e = e

-- the unit alone, the parity's drive being lost
pub data_alone : (n m i p : ℕ) (r s : Row) (u : List ℕ) → i < m → p < m → p ≢ i → s i ≡ Some u → s p ≡ None
    → ((k : ℕ) → k ≢ i → k ≢ p → Fades (r k) (s k)) → WritesRow n m r s i p u
data_alone n m i p r s u hi hp ne su sp fades = record {
  unit = ap (λ a. or_else a (others n m s i)) su;
  others = λ sound j low ni np v e.
      (let own : s j ≡ Some v = only_own (s j) (others n m s j) None v (others_missing n m j p s hp (λ q. np (sym q)) sp) e in
      ap (λ a. or_else a (others n m r j)) (faded (r j) (s j) v (fades j ni np) own));
  sound = λ sound v e. absurd (none-some v (sym (total_missing n m p s hp sp) ∙ e));
}

-- members that are all there
pub total_present : (n m : ℕ) (r : Row) (v : List ℕ) → xor_total n m r ≡ Some v → (j : ℕ) → j < m → (r j ≡ None → ⊥)
total_present n m r v e j low gone = none-some v (sym (total_missing n m j r low gone) ∙ e)

pub same_or_missing : (a : Option (List ℕ)) → (a ≡ None → ⊥) → (b c : Option (List ℕ)) → or_else a b ≡ or_else a c
same_or_missing None h b c = absurd (h refl)
same_or_missing (Some u) h b c = refl

-- the parity alone, the unit's drive being lost and all others but the parity's read
pub parity_alone : (n m i p : ℕ) (r s : Row) (u x : List ℕ) → i < m → p < m → p ≢ i → length u ≡ n → length x ≡ n → rest_of n m r i p ≡ Some x → s i ≡ None → s p ≡ Some (plus u x)
    → ((k : ℕ) → k ≢ i → k ≢ p → r k ≡ s k) → WritesRow n m r s i p u
parity_alone n m i p r s u x hi hp ne size long rest si sp same =
    let after : rest_of n m s i p ≡ Some x = sym (rest_same n m i p r s (λ k _ ni np. same k ni np)) ∙ rest in
    let fits : length u ≤ length x = omega arith in
    let twice : plus (plus u x) x ≡ u = plus-comm (plus u x) x ∙ ap (plus x) (plus-comm u x) ∙ plus_twice x u fits in
    record {
      unit = ap (λ a. or_else a (others n m s i)) si ∙ others_split n m i p s hp ne ∙ ap (λ a. add a (rest_of n m s i p)) sp ∙ ap (add (Some (plus u x))) after ∙ ap (λ t. Some t) twice;
      others = λ sound j low ni np v e.
          (let blank : Option (List ℕ) = Some (replicate n 0) in
          let there : r j ≡ None → ⊥ =
          λ gone. total_present n m (put (put r i blank) p blank) x rest j low (put_other (put r i blank) p j blank np ∙ put_other r i j blank ni ∙ gone) in
          same_or_missing (r j) there (others n m r j) (others n m s j) ∙ ap (λ a. or_else a (others n m s j)) (same j ni np) ∙ e);
      sound = λ sound v e. absurd (none-some v (sym (total_missing n m i s hi si) ∙ e));
    }

-- the unit's drive and another member's are lost: there is no effective unit
pub both_missing : (n m i k : ℕ) (s : Row) → k < m → k ≢ i → s i ≡ None → s k ≡ None → effective n m s i ≡ None
both_missing n m i k s hk ne si sk = ap (λ a. or_else a (others n m s i)) si ∙ others_missing n m i k s hk ne sk
