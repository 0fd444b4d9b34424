-- A block's greatest stamp at two slots: then the block occurs twice.
use Rattle.std.proofs.Common.{◌≡◌, ℕ, zero, suc, ◌<◌, ◌≤◌, ◌⊎◌, inl, inr, Option, Some, None, List, refl, sym, ◌∙◌, ap, subst, arith}
use Rattle.std.proofs.lemmas.Bool.{cases_eq, cases_order}
use Rattle.std.proofs.lemmas.Option.{none-some}
use Rattle.map_join.specs.declared.records.Record.{Record}
use Rattle.map_join.specs.Record.{stamp_of}
use Rattle.extent_groups.specs.Groups.{Groups}
use Rattle.extent_groups.specs.Cells.{Cells}
use Rattle.extent_groups.specs.Stores.{unit_of}
use Rattle.flat_machine.specs.Scanned.{HasHeader}
use Rattle.header_scan.specs.Faults.{SlotUnits, between, Reports, AreFine, IsTwice}
use Rattle.header_scan.specs.Found.{HasStamp}
use Rattle.header_scan.proofs.Scanning.{has_unit, in_between, within, ranged, reported_record, reported_header}

-- the lowest number that has a property
pub record IsFirst (P : ℕ → Type 0) (m : ℕ) : Type 0 where
  pub has : P m
  pub none : (k : ℕ) → k < m → P k → ⊥

-- of a property that can be tested: the lowest number below one that has it, unless none has
first_below : (P : ℕ → Type 0) → ((n : ℕ) → P n ⊎ (P n → ⊥)) → (n : ℕ) → ((m : ℕ) × (m < n) × IsFirst P m) ⊎ ((k : ℕ) → k < n → P k → ⊥)
first_below P test zero = inr (λ k less p. absurd (omega (arith, less)))
first_below P test (suc n) = by (first_below P test n)
  where
    by : ((m : ℕ) × (m < n) × IsFirst P m) ⊎ ((k : ℕ) → k < n → P k → ⊥) → ((m : ℕ) × (m < suc n) × IsFirst P m) ⊎ ((k : ℕ) → k < suc n → P k → ⊥)
    by (inl f) = let less = f.1 in inl (f.0, omega (arith, less), f.2)
    by (inr none) = here (test n)
      where
        here : P n ⊎ (P n → ⊥) → ((m : ℕ) × (m < suc n) × IsFirst P m) ⊎ ((k : ℕ) → k < suc n → P k → ⊥)
        here (inl has) = inl (n, omega arith, record { has = has; none = none })
        here (inr not) = inr (λ k less p. elim (cases_order k n) [
          | inl e ↦ not (subst P e p)
          | inr o ↦ elim o [ inl below ↦ none k below p | inr above ↦ absurd (omega (arith, less, above)) ]
        ])

-- and so of a number that has it
first_of : (P : ℕ → Type 0) → ((n : ℕ) → P n ⊎ (P n → ⊥)) → (n : ℕ) → P n → (m : ℕ) × (m < suc n) × IsFirst P m
first_of P test n has = by (first_below P test (suc n))
  where
    by : ((m : ℕ) × (m < suc n) × IsFirst P m) ⊎ ((k : ℕ) → k < suc n → P k → ⊥) → (m : ℕ) × (m < suc n) × IsFirst P m
    by (inl f) = f
    by (inr none) = absurd (none n (omega arith) has)

module _ (bytes : SlotUnits) (b st : ℕ) (test : (slot : ℕ) → HasStamp bytes b slot st ⊎ (HasStamp bytes b slot st → ⊥)) (most : (slot : ℕ) (r : Record) → HasHeader bytes slot r → r.block ≡ b → stamp_of r ≤ st) where
  abbrev Has : ℕ → Type 0
  Has slot = HasStamp bytes b slot st

  abbrev HasLater : ℕ → ℕ → Type 0
  HasLater first slot = (first < slot) × Has slot

  later : (first slot : ℕ) → HasLater first slot ⊎ (HasLater first slot → ⊥)
  later first slot = by (cases_order first slot) (test slot)
    where
      by : (first ≡ slot) ⊎ ((first < slot) ⊎ (slot < first)) → Has slot ⊎ (Has slot → ⊥) → HasLater first slot ⊎ (HasLater first slot → ⊥)
      by (inl e) has = inr (λ h. let less = h.0 in omega (arith, e, less))
      by (inr (inr above)) has = inr (λ h. let less = h.0 in omega (arith, above, less))
      by (inr (inl less)) (inl has) = inl (less, has)
      by (inr (inl less)) (inr not) = inr (λ h. not h.1)

  -- the two lowest slots of the stamp
  two_lowest : (p q : ℕ) → p < q → IsFirst Has p → IsFirst (HasLater p) q → IsTwice bytes b p q
  two_lowest p q order first second =
      let one = first.has in
      let other = second.has.1 in
      let top = one.3 in
      record {
        one = one.0;
        other = other.0;
        here = (one.1, one.2);
        there = (other.1, other.2);
        order = order;
        same = other.3 ∙ sym one.3;
        most = λ slot r h block. let less = most slot r h block in omega (arith, less, top);
        lowest = λ slot r h block same.
            let has : Has slot = (r, h, block, same ∙ one.3) in
            elim (cases_order slot p) [
              | inl e ↦ inl e
              | inr o ↦ elim o [
                | inl below ↦ absurd (first.none slot below has)
                | inr above ↦ inr (elim (cases_order slot q) [
                  | inl e ↦ omega (arith, e)
                  | inr o ↦ elim o [ inl less ↦ absurd (second.none slot less (above, has)) | inr more ↦ omega (arith, more) ]
                ])
              ]
            ];
      }

  matches_twice : (p q : ℕ) → p < q → Has p → Has q → (x : ℕ) × (y : ℕ) × IsTwice bytes b x y
  matches_twice p q order one other =
      let first = first_of Has test p one in
      let low = first.1 in
      let second = first_of (HasLater first.0) (later first.0) q ((omega (arith, low, order)), other) in
      (first.0, second.0, two_lowest first.0 second.0 second.2.has.0 first.2 second.2)

  -- so where no block occurs twice the greatest stamp occurs once
  pub matches_once : ((p q : ℕ) → IsTwice bytes b p q → ⊥) → (p q : ℕ) → Has p → Has q → p ≡ q
  matches_once never p q one other = elim (cases_order p q) [
    | inl e ↦ e
    | inr o ↦ elim o [
      | inl less ↦ absurd (let is = matches_twice p q less one other in never is.0 is.1 is.2)
      | inr more ↦ absurd (let is = matches_twice q p more other one in never is.0 is.1 is.2)
    ]
  ]

-- whether a slot that is fine has a stamp can be tested
pub has_or_not : (groups : Groups) (c : Cells) (low high b st slot : ℕ) → AreFine groups low high (unit_of groups c)
    → HasStamp (between low high (unit_of groups c)) b slot st ⊎ (HasStamp (between low high (unit_of groups c)) b slot st → ⊥)
has_or_not groups c low high b st slot fine = by (between low high (unit_of groups c) slot) refl
  where
    Has : Type 0
    Has = HasStamp (between low high (unit_of groups c)) b slot st

    reported : (o : Option Record) → low ≤ slot → slot < high → Reports groups.blocks (unit_of groups c) slot o → Has ⊎ (Has → ⊥)
    reported None l h reports = inr (λ has. let both : None ≡ Some has.0 = reported_record groups.blocks (unit_of groups c) slot None has.0 reports (within low high (unit_of groups c) slot has.0 has.1).2 in cc)
    reported (Some r) l h reports = test (cases_eq r.block b) (cases_eq (stamp_of r) st)
      where
        only : (has : Has) → r ≡ has.0
        only has = let both : Some r ≡ Some has.0 = reported_record groups.blocks (unit_of groups c) slot (Some r) has.0 reports (within low high (unit_of groups c) slot has.0 has.1).2 in cc

        test : (r.block ≡ b) ⊎ (r.block ≡ b → ⊥) → (stamp_of r ≡ st) ⊎ (stamp_of r ≡ st → ⊥) → Has ⊎ (Has → ⊥)
        test (inl block) (inl stamp) = inl (r, ranged low high (unit_of groups c) slot r l h (reported_header groups.blocks (unit_of groups c) slot r reports), block, stamp)
        test (inr ne) stamp = inr (λ has. ne (ap (λ (q : Record). q.block) (only has) ∙ has.2))
        test (inl block) (inr ne) = inr (λ has. ne (ap (λ (q : Record). stamp_of q) (only has) ∙ has.3))

    by : (o : Option (List ℕ)) → between low high (unit_of groups c) slot ≡ o → Has ⊎ (Has → ⊥)
    by None e = inr (λ has. none-some has.1.0 (sym e ∙ has.1.1))
    by (Some u) e =
        let is = in_between low high (unit_of groups c) slot u e in
        let o = fine slot (has_unit groups c slot u is.2) is.0 is.1 in
        reported o.0 is.0 is.1 o.1
