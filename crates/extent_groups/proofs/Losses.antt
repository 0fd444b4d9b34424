-- What drives hold when some of them are lost and no unit is written.
use Rattle.std.proofs.Common.{◌≡◌, ℕ, ◌<◌, ◌⊎◌, inl, inr, Bool, true, false, Option, Some, None, List, [], length, refl, sym, ◌∙◌, ap, subst, arith, get_or, if◌then◌else◌}
use Rattle.std.specs.Prelude.{slice_get, slice_set, replicate}
use Rattle.std.proofs.lemmas.Option.{none-some, slice_get-get_or, slice_get_within}
use Rattle.extents.specs.Failures.{Failures}
use Rattle.extent_groups.specs.declared.place.Place.{Place}
use Rattle.extent_groups.specs.Cells.{Cells, cell, cells, held}
use Rattle.extent_groups.specs.Units.{Site, Pair, InStripe, others, or_else, held_in, row_of, unit_at, unit_in, IsSoundAt}
use Rattle.extent_groups.specs.Layout.{IsOf}
use Rattle.extent_groups.specs.Calls.{Fades, FadesAt, IsPlace, NoPlace, KeepsDrives}
use Rattle.extent_groups.proofs.Places.{get-set_same, get-set_other, same_or_not}
use Rattle.extent_groups.proofs.Totals.{total_same, put_agrees}

bool_is : (b : Bool) → (b ≡ true) ⊎ (b ≡ false)
bool_is true = inl refl
bool_is false = inr refl

one_fades : {D : Type 0} (units : D → List (List ℕ)) (lost : D → Bool) (x y : D) (at : ℕ) → slice_get (units y) at ≡ slice_get (units x) at → (lost x ≡ true → lost y ≡ true)
    → Fades (cell units lost (Some x) at) (cell units lost (Some y) at)
one_fades units lost x y at same stays = elim (bool_is (lost y)) [
  | inl gone ↦ inr (ap (λ b. if b then None else slice_get (units y) at) gone)
  | inr there ↦ elim (bool_is (lost x)) [
    | inl was ↦ absurd (let both : true ≡ false = sym (stays was) ∙ there in cc)
    | inr present ↦ inl (ap (λ b. if b then None else slice_get (units y) at) there ∙ same ∙ sym (ap (λ b. if b then None else slice_get (units x) at) present))
  ]
]

-- calls leave what a place that they don't touch holds, or lose it
pub untouched_fades : {D : Type 0} {units : D → List (List ℕ)} {lost : D → Bool} {failures : D → Failures} {touched : Place → Type 0} {a b : List D} → KeepsDrives units lost failures touched a b
    → (x : Place) → (touched x → ⊥) → FadesAt (cells units lost a) (cells units lost b) x
untouched_fades {D = D} {units = units} {lost = lost} {a = a} {b = b} h x untouched = at (slice_get b x.drive) refl where
  at : (o : Option D) → slice_get b x.drive ≡ o → FadesAt (cells units lost a) (cells units lost b) x
  at None e = inr (ap (λ o. cell units lost o x.address) e)
  at (Some y) e =
      let within : x.drive < length a = omega (arith, slice_get_within b x.drive y e, h.many) in
      let ew = slice_get-get_or a x.drive y within in
      let k = h.each x.drive (get_or a x.drive y) y ew e in
      subst (λ o. Fades (cell units lost o x.address) (cells units lost b x.drive x.address)) (sym ew)
      (subst (λ o. Fades (cell units lost (Some (get_or a x.drive y)) x.address) (cell units lost o x.address)) (sym e)
      (one_fades units lost (get_or a x.drive y) y x.address (k.elsewhere x.address untouched) k.stays))

-- calls that touch nothing leave what is there, or lose it
pub kept_fades : {D : Type 0} {units : D → List (List ℕ)} {lost : D → Bool} {failures : D → Failures} {a b : List D} → KeepsDrives units lost failures NoPlace a b
    → (x : Place) → FadesAt (cells units lost a) (cells units lost b) x
kept_fades h x = untouched_fades h x (λ t. t)

-- a place of a drive that holds nothing: the drive is lost
pub none_is_lost : {D : Type 0} (units : D → List (List ℕ)) (lost : D → Bool) (ds : List D) (p : Place) (x : D) → IsPlace units ds p → slice_get ds p.drive ≡ Some x
    → held (cells units lost ds) p ≡ None → lost x ≡ true
none_is_lost units lost ds p x is at gone = elim (bool_is (lost x)) [
  | inl e ↦ e
  | inr there ↦
      (let unit = slice_get-get_or (units x) p.address [] (is.low x at) in
      absurd (none-some (get_or (units x) p.address [])
      (sym gone ∙ ap (λ o. cell units lost o p.address) at ∙ ap (λ b. if b then None else slice_get (units x) p.address) there ∙ unit)))
]

-- one drive replaced by one of the same units that is lost at least where it was
pub set_fades : {D : Type 0} (units : D → List (List ℕ)) (lost : D → Bool) (ds : List D) (d : ℕ) (x y : D) → d < length ds → slice_get ds d ≡ Some x → units y ≡ units x
    → (lost x ≡ true → lost y ≡ true) → (p : Place) → FadesAt (cells units lost ds) (cells units lost (slice_set ds d y)) p
set_fades units lost ds d x y inside there same stays p = elim (same_or_not p.drive d) [
  | inl q ↦
      (let new : slice_get (slice_set ds d y) p.drive ≡ Some y = ap (slice_get (slice_set ds d y)) q ∙ get-set_same ds d y inside in
      let old : slice_get ds p.drive ≡ Some x = ap (slice_get ds) q ∙ there in
      subst (λ o. Fades (cell units lost o p.address) (cells units lost (slice_set ds d y) p.drive p.address)) (sym old)
      (subst (λ o. Fades (cell units lost (Some x) p.address) (cell units lost o p.address)) (sym new)
      (one_fades units lost x y p.address (ap (λ us. slice_get us p.address) same) stays)))
  | inr ne ↦ inl (ap (λ o. cell units lost o p.address) (get-set_other ds d p.drive y ne))
]

-- the members of a list of places hold what they held where the places do
member_same : (c new : Cells) (o : Option Place) → ((x : Place) → o ≡ Some x → held new x ≡ held c x) → held_in new o ≡ held_in c o
member_same c new None h = refl
member_same c new (Some x) h = h x refl

-- a site whose places hold what they held: its unit is what it was, and it is sound where it was
pub site_same : (n : ℕ) (c new : Cells) (t : Site) → ((x : Place) → IsOf t x → held new x ≡ held c x) → (unit_at n new t ≡ unit_at n c t) × (IsSoundAt n c t → IsSoundAt n new t)
site_same n c new (Pair p q) h =
    let first = h p (inl refl) in
    let second = h q (inr refl) in (
      ap (λ a. or_else a (held new q)) first ∙ ap (or_else (held c p)) second,
      λ sound u v eu ev. sound u v (sym first ∙ eu) (sym second ∙ ev),
    )
site_same n c new (InStripe row parity i) h =
    let each : (k : ℕ) → row_of new row k ≡ row_of c row k = λ k. member_same c new (slice_get row k) (λ x at. h x (k, at)) in
    let rest : others n (length row) (row_of new row) i ≡ others n (length row) (row_of c row) i =
    total_same n (length row) _ _ (λ k _. put_agrees (row_of new row) (row_of c row) i (Some (replicate n 0)) k (λ _. each k)) in (
      ap (λ a. or_else a (others n (length row) (row_of new row) i)) (each i) ∙ ap (or_else (row_of c row i)) rest,
      λ sound v e. sound v (sym (total_same n (length row) (row_of new row) (row_of c row) (λ k _. each k)) ∙ e),
    )

-- the same, of an optional site's unit
pub unit_same : (n : ℕ) (c new : Cells) (o : Option Site) → ((t : Site) → o ≡ Some t → (x : Place) → IsOf t x → held new x ≡ held c x) → unit_in n new o ≡ unit_in n c o
unit_same n c new None h = refl
unit_same n c new (Some t) h = (site_same n c new t (h t refl)).0
