-- Two states of the drives in which all slots are sound, and of which each row differs at one place at most, are the same.
use Rattle.std.proofs.Common.{◌≡◌, ◌≢◌, ◌<◌, ◌⊎◌, inl, inr, ℕ, Bool, true, false, Option, Some, None, List, length, slice_get, refl, sym, ◌∙◌, ap, subst, arith}
use Rattle.std.specs.Prelude.{replicate}
use Rattle.std.proofs.lemmas.Bool.{true≢false}
use Rattle.std.proofs.lemmas.Option.{none-some, slice_get_cases, slice_get_within}
use Rattle.extent_groups.specs.declared.place.Place.{Place}
use Rattle.extent_groups.specs.Groups.{Groups}
use Rattle.extent_groups.specs.Cells.{Cells, held}
use Rattle.extent_groups.specs.Layout.{IsOf, IsDriveDisjoint}
use Rattle.extent_groups.specs.Stores.{unit_bytes}
use Rattle.extent_groups.specs.Units.{Site, Pair, InStripe, IsSoundAt, add, held_in, or_else, others, plus, put, row_of, unit_at, xor_total}
use Rattle.extent_groups.proofs.ExclusiveOr.{plus_same}
use Rattle.extent_groups.proofs.LayoutLaw.{layout_law}
use Rattle.extent_groups.proofs.Missing.{total_none}
use Rattle.extent_groups.proofs.Places.{same_or_not}
use Rattle.extent_groups.proofs.Totals.{Row, length-xor_total, put_agrees, put_other, put_same, total_same, total_split}
use Rattle.rotten_units.specs.Rows.{AreNotedOnce, AreRowsWhole, IsSiteSized, IsPlaceUsed, NotesOne, SameUsed}

there_is : (o : Option (List ℕ)) → (o ≡ None → ⊥) → (v : List ℕ) × (o ≡ Some v)
there_is None h = absurd (h refl)
there_is (Some v) h = (v, refl)

-- an element below the length
pub there : {A : Type 0} (xs : List A) (i : ℕ) → i < length xs → (x : A) × (slice_get xs i ≡ Some x)
there xs i low = elim (slice_get_cases xs i).1 [ inl is ↦ (is.0, is.2) | inr past ↦ (let high = past.0 in absurd (omega (arith, low, high))) ]

-- each member of a row has a unit of n bytes
abbrev Whole : ℕ → ℕ → Row → Type 0
Whole n m r = (k : ℕ) → k < m → (u : List ℕ) × (r k ≡ Some u) × (length u ≡ n)

-- the others of a whole row have a sum
others_there : (n m i : ℕ) (r : Row) → Whole n m r → others n m r i ≡ None → ⊥
others_there n m i r whole e =
    let blank : Option (List ℕ) = Some (replicate n 0) in
    let k = total_none n m (put r i blank) e in
    let u = whole k.0 k.1 in
    elim (same_or_not k.0 i) [
      | inl is ↦ none-some (replicate n 0) (sym k.2 ∙ ap (put r i blank) is ∙ put_same r i blank)
      | inr ne ↦ none-some u.0 (sym k.2 ∙ put_other r i k.0 blank ne ∙ u.1)
    ]

-- in a sound row a member is the sum of the others
member_is : (n m i : ℕ) (r : Row) → i < m → Whole n m r → ((v : List ℕ) → xor_total n m r ≡ Some v → v ≡ replicate n 0) → (v : List ℕ) → others n m r i ≡ Some v → r i ≡ Some v
member_is n m i r low whole sound v e =
    let u = whole i low in
    let all : xor_total n m r ≡ Some (plus u.0 v) = total_split n m i r low ∙ ap (λ a. add a (others n m r i)) u.1 ∙ ap (add (Some u.0)) e in
    u.1 ∙ ap (λ w. Some w) (plus_same n u.0 v u.2 (length-xor_total n m (put r i (Some (replicate n 0))) v e) (sound (plus u.0 v) all))

-- two sound rows that agree but at one member agree there too
pub row_same : (n m i : ℕ) (r s : Row) → i < m → Whole n m r → Whole n m s → ((v : List ℕ) → xor_total n m r ≡ Some v → v ≡ replicate n 0)
    → ((v : List ℕ) → xor_total n m s ≡ Some v → v ≡ replicate n 0) → ((k : ℕ) → k < m → k ≢ i → r k ≡ s k) → r i ≡ s i
row_same n m i r s low whole also sound too same =
    let sum = there_is (others n m r i) (others_there n m i r whole) in
    let agree : others n m r i ≡ others n m s i = total_same n m _ _ (λ k lt. put_agrees r s i (Some (replicate n 0)) k (λ ne. same k lt ne)) in
    member_is n m i r low whole sound sum.0 sum.1 ∙ sym (member_is n m i s low also too sum.0 (sym agree ∙ sum.1))

module _ (n : ℕ) (c d : Cells) (noted : Place → Type 0) (decide : (x : Place) → noted x ⊎ (noted x → ⊥)) where
  -- a copy that is noted is as the other one
  copy_same : (p q : Place) → p.drive ≢ q.drive → (noted p → noted q → p ≡ q) → ((noted p → ⊥) → held c p ≡ held d p) → ((noted q → ⊥) → held c q ≡ held d q)
      → held c p ≡ held c q → held d p ≡ held d q → held c p ≡ held d p
  copy_same p q apart one same also pair too = elim (decide p) [
    | inr out ↦ same out
    | inl has ↦ pair ∙ also (λ both. apart (ap (λ (x : Place). x.drive) (one has both))) ∙ sym too
  ]

  equal_copies : (e : Cells) (p q : Place) → ((u v : List ℕ) → held e p ≡ Some u → held e q ≡ Some v → u ≡ v) → ((u : List ℕ) × (held e p ≡ Some u) × (length u ≡ n))
      → ((v : List ℕ) × (held e q ≡ Some v) × (length v ≡ n)) → held e p ≡ held e q
  equal_copies e p q sound u v = u.1 ∙ ap (λ w. Some w) (sound u.0 v.0 u.1 v.1) ∙ sym v.1

  member : (row : List Place) (parity i : ℕ) (e : Cells) → IsSiteSized n e (InStripe row parity i) → Whole n (length row) (row_of e row)
  member row parity i e sized k low =
      let x = there row k low in
      let u = sized x.0 (k, x.1) in
      (u.0, ap (held_in e) x.1 ∙ u.1, u.2)

  pub site_same : (site : Site) → IsDriveDisjoint site → NotesOne noted site → ((x : Place) → IsOf site x → (noted x → ⊥) → held c x ≡ held d x) → IsSiteSized n c site → IsSiteSized n d site
      → IsSoundAt n c site → IsSoundAt n d site → (x : Place) → IsOf site x → held c x ≡ held d x
  site_same (Pair p q) whole one same sized also sound too x (inl is) =
      subst (λ y. held c y ≡ held d y) (sym is)
      (copy_same p q whole (one p q (inl refl) (inr refl)) (same p (inl refl)) (same q (inr refl))
      (equal_copies c p q sound (sized p (inl refl)) (sized q (inr refl))) (equal_copies d p q too (also p (inl refl)) (also q (inr refl))))
  site_same (Pair p q) whole one same sized also sound too x (inr is) =
      subst (λ y. held c y ≡ held d y) (sym is)
      (copy_same q p (λ e. whole (sym e)) (one q p (inr refl) (inl refl)) (same q (inr refl)) (same p (inl refl))
      (sym (equal_copies c p q sound (sized p (inl refl)) (sized q (inr refl)))) (sym (equal_copies d p q too (also p (inl refl)) (also q (inr refl)))))
  site_same (InStripe row parity i) whole one same sized also sound too x (k, at) = elim (decide x) [
    | inr out ↦ same x (k, at) out
    | inl has ↦
        sym (ap (held_in c) at)
        ∙ row_same n (length row) k (row_of c row) (row_of d row) (slice_get_within row k x at) (member row parity i c sized) (member row parity i d also) sound too
        (λ j low ne.
        let y = there row j low in
        ap (held_in c) y.1
        ∙ same y.0 (j, y.1) (λ both. ne (whole.3 j k y.0 x y.1 at (ap (λ (z : Place). z.drive) (one y.0 x (j, y.1) (k, at) both has))))
        ∙ sym (ap (held_in d) y.1))
        ∙ ap (held_in d) at
  ]

-- Two states of the drives in which nothing is missing and all slots are sound, with units that differ only at noted places, of each row
-- one at most: all units of the groups are the same.
pub used_same : (groups : Groups) (c d : Cells) (noted : Place → Type 0) → ((x : Place) → noted x ⊎ (noted x → ⊥)) → AreRowsWhole groups c → AreRowsWhole groups d → AreNotedOnce noted groups
    → ((x : Place) → IsPlaceUsed groups x → (noted x → ⊥) → held c x ≡ held d x) → SameUsed groups c d
used_same groups c d noted decide is also one same x (slot, site, at, of) =
    site_same (unit_bytes groups) c d noted decide site ((layout_law groups is.formed).whole slot site at) (one slot site at) (λ y on out. same y (slot, site, at, on) out)
    (is.sized slot site at) (also.sized slot site at) (is.sound slot site at) (also.sound slot site at) x of

-- the same, where the noted places are given by a test
decide_true : (b : Bool) → (b ≡ true) ⊎ ((b ≡ true) → ⊥)
decide_true true = inl refl
decide_true false = inr (λ e. true≢false (sym e))

not_true : (b : Bool) → ((b ≡ true) → ⊥) → b ≡ false
not_true true out = absurd (out refl)
not_true false out = refl

pub used_same_by : (groups : Groups) (c d : Cells) (noted : Place → Bool) → AreRowsWhole groups c → AreRowsWhole groups d → AreNotedOnce (λ x. noted x ≡ true) groups
    → ((x : Place) → IsPlaceUsed groups x → noted x ≡ false → held c x ≡ held d x) → SameUsed groups c d
used_same_by groups c d noted is also one same =
    used_same groups c d (λ x. noted x ≡ true) (λ x. decide_true (noted x)) is also one (λ x used out. same x used (not_true (noted x) out))

-- the members of a row, in two states that are the same at its places
member_same : (a b : Cells) (o : Option Place) → ((x : Place) → o ≡ Some x → held a x ≡ held b x) → held_in a o ≡ held_in b o
member_same a b None same = refl
member_same a b (Some x) same = same x refl

-- the effective unit of a site, in two states that are the same at its places
pub unit_same : (n : ℕ) (a b : Cells) (site : Site) → ((x : Place) → IsOf site x → held a x ≡ held b x) → unit_at n a site ≡ unit_at n b site
unit_same n a b (Pair p q) same = ap (λ o. or_else o (held a q)) (same p (inl refl)) ∙ ap (or_else (held b p)) (same q (inr refl))
unit_same n a b (InStripe row parity i) same =
    let rows : (k : ℕ) → row_of a row k ≡ row_of b row k = λ k. member_same a b (slice_get row k) (λ x at. same x (k, at)) in
    ap (λ o. or_else o (others n (length row) (row_of a row) i)) (rows i)
    ∙ ap (or_else (row_of b row i)) (total_same n (length row) _ _ (λ k lt. put_agrees (row_of a row) (row_of b row) i (Some (replicate n 0)) k (λ ne. rows k)))
