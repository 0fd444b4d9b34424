use Rattle.std.proofs.Common.{◌≡◌, ℕ, inl, inr, Bool, Some, None, refl, sym, ap, ◌∙◌, subst, List, [], ◌∷◌, ◌++◌, Vec}
use Rattle.std.specs.Prelude.{slice_get}
use Rattle.std.specs.Global.{Global}
use Rattle.std.proofs.lemmas.Option.{same_Some}
use Rattle.extent_groups.specs.declared.place.Place.{Place}
use Rattle.extent_groups.specs.Cells.{cells, held}
use Rattle.extent_groups.specs.Groups.{Groups}
use Rattle.extent_groups.specs.Missing.{missing_of, IsGoneAt, IsGone}
use Rattle.extent_groups.specs.Units.{Pair, site_of}
use Rattle.extent_groups.specs.Planned.{Intended, IsWritePlan, IsPlan}
use Rattle.extent_groups.specs.PlanLists.{as_expected, listed}
use Rattle.extent_groups.proofs.Finishing.{planned_pair, planned_one}
use Rattle.extent_groups.proofs.Listing.{pair_plan, both_listed, first_listed, second_listed}
use Rattle.extent_groups.proofs.LayoutLaw.{layout_law}
use Rattle.extent_groups.proofs.Missing.{cell_missing}
use Rattle.extent_groups.proofs.Sites.{site_places}
use Rattle.extent_groups.proofs.StoreCalls.{site_whole, sized_cells}
use Rattle.mirrored_store.proofs.planning.plan.Goals as goal

pub is_there-here-requires-clause-place : goal.is_there-here-requires-clause-place
is_there-here-requires-clause-place g c = site_places _ _ _ c.args.slot _ c.pair_of.ensures.groups c.requires.drives c.pair_of.ensures.site _ (inl refl)

pub is_there-here-requires-clause-inside : goal.is_there-here-requires-clause-inside
is_there-here-requires-clause-inside g c = (site_places _ _ _ c.args.slot _ c.pair_of.ensures.groups c.requires.drives c.pair_of.ensures.site _ (inl refl)).inside

pub is_there-there-requires-clause-place : goal.is_there-there-requires-clause-place
is_there-there-requires-clause-place g c = site_places _ _ _ c.args.slot _ c.pair_of.ensures.groups c.requires.drives c.pair_of.ensures.site _ (inr refl)

pub is_there-there-requires-clause-inside : goal.is_there-there-requires-clause-inside
is_there-there-requires-clause-inside g c = (site_places _ _ _ c.args.slot _ c.pair_of.ensures.groups c.requires.drives c.pair_of.ensures.site _ (inr refl)).inside

-- a list of one write, and of two
one_listed : (xs ys : List (ℕ × ℕ × Vec ℕ Global)) (a : ℕ × ℕ × Vec ℕ Global) (A : Intended) → xs ≡ [] → ys ≡ xs ++ a ∷ [] → as_expected a ≡ A → A ∷ [] ≡ listed ys
one_listed xs ys a A none more is = sym (ap listed (more ∙ ap (λ l. l ++ a ∷ []) none) ∙ ap (λ w. w ∷ []) is)

two_listed : (xs ys zs : List (ℕ × ℕ × Vec ℕ Global)) (a b : ℕ × ℕ × Vec ℕ Global) (A B : Intended) → xs ≡ [] → ys ≡ xs ++ a ∷ [] → zs ≡ ys ++ b ∷ [] → as_expected a ≡ A → as_expected b ≡ B
    → A ∷ B ∷ [] ≡ listed zs
two_listed xs ys zs a b A B none more last is also =
    sym (ap listed (last ∙ ap (λ l. l ++ b ∷ []) (more ∙ ap (λ l. l ++ a ∷ []) none)) ∙ λ i. is i ∷ also i ∷ [])

pub returns-then-there-clause-ok : goal.returns-then-there-clause-ok
returns-then-there-clause-ok g c =
    let d = g.D.Drive in
    let all = cells d.units d.lost c.args.drives.now in (
      subst (λ ws. IsWritePlan c.args.groups.now all c.args.slot c.args.unit.now (λ z. c.args.unit.now) ws)
          (two_listed _ _ _ _ _ _ _ c.in-Ok.ensures.items c.push_reserved.ensures.items c.push_reserved-then-there.ensures.items c.in-Ok-write_of.ensures c.in-Ok-write_of-2.ensures)
          (planned_pair c.args.groups.now all c.args.slot _ _ c.args.unit.now (layout_law _ c.pair_of.ensures.groups) c.pair_of.ensures.site (sized_cells d.units d.lost _ _ c.requires.drives)
          (site_whole _ c.args.slot _ c.pair_of.ensures.groups c.pair_of.ensures.site) (λ both. c.if-here.ensures both.0)),
      refl,
    )

pub returns-then-here-clause-ok : goal.returns-then-here-clause-ok
returns-then-here-clause-ok g c =
    let d = g.D.Drive in
    let all = cells d.units d.lost c.args.drives.now in (
      subst (λ ws. IsWritePlan c.args.groups.now all c.args.slot c.args.unit.now (λ z. c.args.unit.now) ws)
          (one_listed _ _ _ _ c.in-Ok.ensures.items c.push_reserved.ensures.items c.in-Ok-write_of.ensures)
          (planned_one c.args.groups.now all c.args.slot _ _ _ _ c.args.unit.now (layout_law _ c.pair_of.ensures.groups) c.pair_of.ensures.site (sized_cells d.units d.lost _ _ c.requires.drives)
          (site_whole _ c.args.slot _ c.pair_of.ensures.groups c.pair_of.ensures.site) (inl (refl, refl)) c.if-here.ensures c.if-there.ensures),
      refl,
    )

pub returns-then-there-2-clause-ok : goal.returns-then-there-2-clause-ok
returns-then-there-2-clause-ok g c =
    let d = g.D.Drive in
    let all = cells d.units d.lost c.args.drives.now in (
      subst (λ ws. IsWritePlan c.args.groups.now all c.args.slot c.args.unit.now (λ z. c.args.unit.now) ws)
          (one_listed _ _ _ _ c.in-Ok.ensures.items c.push_reserved-then-there-2.ensures.items c.in-Ok-write_of-2.ensures)
          (planned_one c.args.groups.now all c.args.slot _ _ _ _ c.args.unit.now (layout_law _ c.pair_of.ensures.groups) c.pair_of.ensures.site (sized_cells d.units d.lost _ _ c.requires.drives)
          (site_whole _ c.args.slot _ c.pair_of.ensures.groups c.pair_of.ensures.site) (inr (refl, refl)) c.if-there-2.ensures c.if-here.ensures),
      refl,
    )

pub returns-then-there-clause-listed : goal.returns-then-there-clause-listed
returns-then-there-clause-listed g c =
    let d = g.D.Drive in
    let all = cells d.units d.lost c.args.drives.now in
    subst (λ ws. IsPlan c.args.groups.now all c.args.slot c.args.unit.now (λ z. c.args.unit.now) ws)
    (both_listed all (λ z. c.args.unit.now) _ _ c.if-here.ensures c.if-there.ensures ∙ two_listed _ _ _ _ _ _ _ c.in-Ok.ensures.items c.push_reserved.ensures.items c.push_reserved-then-there.ensures.items c.in-Ok-write_of.ensures c.in-Ok-write_of-2.ensures)
    (pair_plan c.args.groups.now all c.args.slot _ _ c.args.unit.now (layout_law _ c.pair_of.ensures.groups) c.pair_of.ensures.site (sized_cells d.units d.lost _ _ c.requires.drives)
    (site_whole _ c.args.slot _ c.pair_of.ensures.groups c.pair_of.ensures.site) c.requires.unit (λ both. c.if-here.ensures both.0))

pub returns-then-here-clause-listed : goal.returns-then-here-clause-listed
returns-then-here-clause-listed g c =
    let d = g.D.Drive in
    let all = cells d.units d.lost c.args.drives.now in
    subst (λ ws. IsPlan c.args.groups.now all c.args.slot c.args.unit.now (λ z. c.args.unit.now) ws)
    (first_listed all (λ z. c.args.unit.now) _ _ c.if-here.ensures c.if-there.ensures ∙ one_listed _ _ _ _ c.in-Ok.ensures.items c.push_reserved.ensures.items c.in-Ok-write_of.ensures)
    (pair_plan c.args.groups.now all c.args.slot _ _ c.args.unit.now (layout_law _ c.pair_of.ensures.groups) c.pair_of.ensures.site (sized_cells d.units d.lost _ _ c.requires.drives)
    (site_whole _ c.args.slot _ c.pair_of.ensures.groups c.pair_of.ensures.site) c.requires.unit (λ both. c.if-here.ensures both.0))

pub returns-then-there-2-clause-listed : goal.returns-then-there-2-clause-listed
returns-then-there-2-clause-listed g c =
    let d = g.D.Drive in
    let all = cells d.units d.lost c.args.drives.now in
    subst (λ ws. IsPlan c.args.groups.now all c.args.slot c.args.unit.now (λ z. c.args.unit.now) ws)
    (second_listed all (λ z. c.args.unit.now) _ _ c.if-here.ensures c.if-there-2.ensures ∙ one_listed _ _ _ _ c.in-Ok.ensures.items c.push_reserved-then-there-2.ensures.items c.in-Ok-write_of-2.ensures)
    (pair_plan c.args.groups.now all c.args.slot _ _ c.args.unit.now (layout_law _ c.pair_of.ensures.groups) c.pair_of.ensures.site (sized_cells d.units d.lost _ _ c.requires.drives)
    (site_whole _ c.args.slot _ c.pair_of.ensures.groups c.pair_of.ensures.site) c.requires.unit (λ both. c.if-there-2.ensures both.1))

-- neither copy of a slot that is gone holds a unit
gone_pair : {D : Type 0} (units : D → List (List ℕ)) (lost : D → Bool) (ds : List D) (t : Groups) (slot : ℕ) (p q : Place) → site_of t slot ≡ Some (Pair p q)
    → IsGone t (missing_of lost ds) slot → (held (cells units lost ds) p ≡ None) × (held (cells units lost ds) q ≡ None)
gone_pair units lost ds t slot p q at gone =
    let both : IsGoneAt (missing_of lost ds) (Pair p q) = subst (IsGoneAt (missing_of lost ds)) (same_Some _ _ (sym gone.1 ∙ at)) gone.2 in
    (cell_missing units lost (slice_get ds p.drive) p.address both.0, cell_missing units lost (slice_get ds q.drive) q.address both.1)

pub returns-then-there-clause-there : goal.returns-then-there-clause-there
returns-then-there-clause-there g c = λ gone.
    c.if-here.ensures (gone_pair g.D.Drive.units g.D.Drive.lost c.args.drives.now c.args.groups.now c.args.slot _ _ c.pair_of.ensures.site gone).0

pub returns-then-here-clause-there : goal.returns-then-here-clause-there
returns-then-here-clause-there g c = λ gone.
    c.if-here.ensures (gone_pair g.D.Drive.units g.D.Drive.lost c.args.drives.now c.args.groups.now c.args.slot _ _ c.pair_of.ensures.site gone).0

pub returns-then-there-2-clause-there : goal.returns-then-there-2-clause-there
returns-then-there-2-clause-there g c = λ gone.
    c.if-there-2.ensures (gone_pair g.D.Drive.units g.D.Drive.lost c.args.drives.now c.args.groups.now c.args.slot _ _ c.pair_of.ensures.site gone).1
