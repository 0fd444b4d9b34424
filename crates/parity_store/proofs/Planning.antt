-- The three ways of a write as plans: units and places that were worked out and not written yet.
use Rattle.std.proofs.Common.{◌≡◌, ◌≢◌, ℕ, ◌⊎◌, inl, inr, Some, None, List, [], ◌∷◌, length, Contains, refl, sym, ◌∙◌, ap, subst, arith}
use Rattle.std.proofs.lemmas.Option.{same_Some}
use Rattle.extent_groups.specs.declared.place.Place.{Place}
use Rattle.extent_groups.specs.Groups.{Groups}
use Rattle.extent_groups.specs.Cells.{Cells, held}
use Rattle.extent_groups.specs.Units.{InStripe, plus, xor_total, held_in, row_of, unit_at, IsSoundAt, site_of}
use Rattle.extent_groups.specs.Layout.{IsLayout}
use Rattle.extent_groups.specs.Stores.{unit_bytes, IsOwn, LeavesSites}
use Rattle.extent_groups.specs.Planned.{Intended, over, with_unit, after, IsWritePlan}
use Rattle.extent_groups.proofs.SlotWrites.{AreSizedCells}
use Rattle.extent_groups.proofs.Finishing.{write_here, write_else, among_one, among_two, expected_of, expected_here, expected_else, planned_site}
use Rattle.parity_store.specs.Ways.{bare, Differs, ParityWritten}
use Rattle.parity_store.specs.Targets.{IsHome}
use Rattle.parity_store.proofs.Stripes.{drives_differ, differs_row, differs_leaves, parity_row, parity_leaves}

abbrev pub for_place : Place → List ℕ → Intended
for_place place unit = record { place = place; unit = unit }

none_in : (w : Intended) → Contains {X = Intended} [] w → ⊥
none_in w has = let low = has.1 in absurd (omega arith)

-- a place that a write of a member may touch is its own or the parity's
own_two : (row : List Place) (p i : ℕ) (home parity x : Place) → IsHome row p i home parity → IsOwn (InStripe row p i) x → (home ≡ x) ⊎ (parity ≡ x)
own_two row p i home parity x h (inl e) = inl (same_Some home x (sym h.home_is ∙ e))
own_two row p i home parity x h (inr e) = inr (same_Some parity x (sym h.parity_is ∙ e))

module _ (groups : Groups) (c : Cells) (slot : ℕ) (row : List Place) (p i : ℕ) (home parity : Place) (u s : List ℕ) (layout : IsLayout groups)
    (at : site_of groups slot ≡ Some (InStripe row p i)) (h : IsHome row p i home parity) (long : length u ≡ unit_bytes groups) (sized : AreSizedCells (unit_bytes groups) c) where
  apart : home ≡ parity → ⊥
  apart e = drives_differ row p i home parity h (ap (λ (x : Place). x.drive) e)

  abbrev expected : Place → List ℕ
  expected = expected_of home u s

  here_is : expected home ≡ u
  here_is = expected_here home u s

  there_is : expected parity ≡ s
  there_is = expected_else home parity u s apart

  as_long : (c : Cells) → AreSizedCells (unit_bytes groups) c → AreSizedCells (length u) c
  as_long d are = subst (λ n. AreSizedCells n d) (sym long) are

  -- of each write: it is one of the two places', with what is wanted there
  own_of : (w : Intended) → (for_place home u ≡ w) ⊎ (for_place parity s ≡ w) → IsOwn (InStripe row p i) w.place × (w.unit ≡ expected w.place)
  own_of w (inl e) = subst (λ (v : Intended). IsOwn (InStripe row p i) v.place × (v.unit ≡ expected v.place)) e (inl h.home_is, sym here_is)
  own_of w (inr e) = subst (λ (v : Intended). IsOwn (InStripe row p i) v.place × (v.unit ≡ expected v.place)) e (inr h.parity_is, sym there_is)

  abbrev both : List Intended
  both = for_place home u ∷ for_place parity s ∷ []

  home_both : held (after c both) home ≡ over (held c home) u
  home_both = write_else (with_unit c (for_place home u)) (for_place parity s) home (λ e. apart (sym e)) ∙ write_here c (for_place home u)

  parity_both : held (after c both) parity ≡ over (held c parity) s
  parity_both = write_here (with_unit c (for_place home u)) (for_place parity s) ∙ ap (λ o. over o s) (write_else c (for_place home u) parity apart)

  else_both : (x : Place) → x ≢ home → x ≢ parity → held (after c both) x ≡ held c x
  else_both x nh np = write_else (with_unit c (for_place home u)) (for_place parity s) x (λ e. np (sym e)) ∙ write_else c (for_place home u) x (λ e. nh (sym e))

  all_two : (ws : List Intended) → held (after c ws) home ≡ over (held c home) u → held (after c ws) parity ≡ over (held c parity) s
      → (x : Place) → IsOwn (InStripe row p i) x → held (after c ws) x ≡ over (held c x) (expected x)
  all_two ws one two x own = elim (own_two row p i home parity x h own) [
    | inl e ↦ subst (λ y. held (after c ws) y ≡ over (held c y) (expected y)) e (one ∙ ap (over (held c home)) (sym here_is))
    | inr e ↦ subst (λ y. held (after c ws) y ≡ over (held c y) (expected y)) e (two ∙ ap (over (held c parity)) (sym there_is))
  ]

  from_differs : (ws : List Intended) → Differs c (after c ws) home parity u
      → (unit_at (unit_bytes groups) (after c ws) (InStripe row p i) ≡ Some u)
      × (IsSoundAt (unit_bytes groups) c (InStripe row p i) → LeavesSites (unit_bytes groups) c (after c ws) (InStripe row p i))
  from_differs ws d = (
    subst (λ n. unit_at n (after c ws) (InStripe row p i) ≡ Some u) long (differs_row c (after c ws) row p i home parity u h d).unit,
    λ sound. subst (λ n. LeavesSites n c (after c ws) (InStripe row p i)) long
        (differs_leaves c (after c ws) row p i home parity u h (as_long c sized) (subst (λ n. IsSoundAt n c (InStripe row p i)) (sym long) sound) d),
  )

  -- unit and parity by difference, where both are there
  pub planned_both : (d q : List ℕ) → held c home ≡ Some d → held c parity ≡ Some q → s ≡ plus (plus q d) u → IsWritePlan groups c slot u expected both
  planned_both d q hd hq is =
      let changed : Differs c (after c both) home parity u = record {
        here = home_both ∙ ap (λ o. over o u) hd;
        there = inr (d, q, hd, hq, parity_both ∙ ap (λ o. over o s) hq ∙ ap (λ t. Some t) is);
        nearby = λ x nh np. inl (else_both x nh np);
        elsewhere = λ x dh dp. else_both x (λ e. dh (ap (λ (y : Place). y.drive) e)) (λ e. dp (ap (λ (y : Place). y.drive) e));
      } in
      let left = from_differs both changed in
      planned_site groups c slot (InStripe row p i) u expected both layout at
      ((λ v has same. apart (sym same ∙ ap (λ (w : Intended). w.place) (sym (among_one (for_place parity s) v has)))), ((λ v has. absurd (none_in v has)), tt))
      (λ w has. own_of w (among_two (for_place home u) (for_place parity s) w has)) (all_two both home_both parity_both) left.0 left.1

  -- the unit alone, where the parity's drive is lost
  pub planned_alone : (d : List ℕ) → held c home ≡ Some d → held c parity ≡ None → IsWritePlan groups c slot u expected (for_place home u ∷ [])
  planned_alone d hd gone =
      let ws = for_place home u ∷ [] in
      let one : held (after c ws) home ≡ over (held c home) u = write_here c (for_place home u) in
      let kept : (x : Place) → x ≢ home → held (after c ws) x ≡ held c x = λ x nh. write_else c (for_place home u) x (λ e. nh (sym e)) in
      let two : held (after c ws) parity ≡ None = kept parity (λ e. apart (sym e)) ∙ gone in
      let changed : Differs c (after c ws) home parity u = record {
        here = one ∙ ap (λ o. over o u) hd;
        there = inl two;
        nearby = λ x nh np. inl (kept x nh);
        elsewhere = λ x dh dp. kept x (λ e. dh (ap (λ (y : Place). y.drive) e));
      } in
      let left = from_differs ws changed in
      planned_site groups c slot (InStripe row p i) u expected ws layout at ((λ v has. absurd (none_in v has)), tt)
      (λ w has. own_of w (inl (among_one (for_place home u) w has))) (all_two ws one (two ∙ sym (ap (λ o. over o s) gone))) left.0 left.1

  -- the parity alone, where the unit's drive is lost and all others were read
  pub planned_parity : (q rest : List ℕ) → held c home ≡ None → held c parity ≡ Some q
      → xor_total (unit_bytes groups) (length row) (bare (unit_bytes groups) (row_of c row) i p) ≡ Some rest → s ≡ plus u rest
      → IsWritePlan groups c slot u expected (for_place parity s ∷ [])
  planned_parity q rest gone hq sum is =
      let ws = for_place parity s ∷ [] in
      let two : held (after c ws) parity ≡ over (held c parity) s = write_here c (for_place parity s) in
      let kept : (x : Place) → x ≢ parity → held (after c ws) x ≡ held c x = λ x np. write_else c (for_place parity s) x (λ e. np (sym e)) in
      let one : held (after c ws) home ≡ None = kept home apart ∙ gone in
      let changed : ParityWritten (length u) c (after c ws) row i p u = record {
        there = (rest, subst (λ n. xor_total n (length row) (bare n (row_of c row) i p) ≡ Some rest) (sym long) sum, ap (held_in (after c ws)) h.parity_is ∙ two ∙ ap (λ o. over o s) hq ∙ ap (λ t. Some t) is);
        nearby = λ x never. inl (kept x (λ e. never (h.parity_is ∙ ap (λ y. Some y) (sym e))));
        elsewhere = λ x y ay dp. kept x (λ e. dp (ap (λ (z : Place). z.drive) (e ∙ same_Some parity y (sym h.parity_is ∙ ay))));
      } in
      planned_site groups c slot (InStripe row p i) u expected ws layout at ((λ v has. absurd (none_in v has)), tt)
      (λ w has. own_of w (inr (among_one (for_place parity s) w has))) (all_two ws (one ∙ sym (ap (λ o. over o u) gone)) two)
      (subst (λ n. unit_at n (after c ws) (InStripe row p i) ≡ Some u) long (parity_row c c (after c ws) row p i home parity u h (as_long c sized) (λ x. inl refl) gone changed).unit)
      (λ sound. subst (λ n. LeavesSites n c (after c ws) (InStripe row p i)) long
      (parity_leaves c c (after c ws) row p i home parity u h (as_long c sized) (subst (λ n. IsSoundAt n c (InStripe row p i)) (sym long) sound) (λ x. inl refl) gone changed))
