-- What finishing a note leaves of the places of its slot.
use Rattle.std.proofs.Common.{◌≡◌, ◌≢◌, ℕ, ◌⊎◌, inl, inr, Bool, true, false, Option, Some, None, List, refl, sym, ◌∙◌, ap, subst}
use Rattle.std.specs.Prelude.{slice_get, if◌then◌else◌}
use Rattle.std.proofs.lemmas.Option.{same_Some}
use Rattle.extent_groups.specs.declared.place.Place.{Place}
use Rattle.extent_groups.specs.Groups.{Groups}
use Rattle.extent_groups.specs.Cells.{Cells, held}
use Rattle.extent_groups.specs.Calls.{Fades, if_ok, DidWrite}
use Rattle.extent_groups.specs.Planned.{Intended, over, after, expected_in, expected_parity, IsPlan, IsFinished}
use Rattle.extent_groups.specs.Layout.{IsDriveDisjoint}
use Rattle.extent_groups.specs.Stores.{unit_bytes, IsOwn, IsOwnOf}
use Rattle.extent_groups.proofs.StoreCalls.{slot_unit}
use Rattle.extent_groups.specs.Units.{Site, Pair, InStripe, site_of, held_in, row_of, or_else}
use Rattle.unit_store.specs.Notes.{is_at, unit_noted}
use Rattle.extent_groups.proofs.Fading.{fades_trans}
use Rattle.extent_groups.proofs.Finishing.{expected_of, expected_here, expected_else}

-- what a write leaves of its own place
here : (a b : Option (List ℕ)) (u : List ℕ) (ok : Bool) → b ≡ if_ok ok u → (ok ≡ true → a ≡ None → ⊥) → (b ≡ over a u) ⊎ (b ≡ None)
here a b u false is was = inr is
here None b u true is was = absurd (was refl refl)
here (Some v) b u true is was = inl is

-- and after losses
later : (a b e : Option (List ℕ)) (u : List ℕ) → (b ≡ over a u) ⊎ (b ≡ None) → Fades b e → (e ≡ over a u) ⊎ (e ≡ None)
later a b e u h (inr gone) = inr gone
later a b e u (inl is) (inl same) = inl (same ∙ is)
later a b e u (inr gone) (inl same) = inr (same ∙ gone)

-- what fades to a unit was there
was_there : (a b : Option (List ℕ)) → Fades a b → (b ≡ None → ⊥) → a ≡ None → ⊥
was_there a b (inl same) there gone = there (same ∙ gone)
was_there a b (inr none) there gone = there none

-- two places were written, one after the other
pub finished_two : (groups : Groups) (c m e : Cells) (slot : ℕ) (p q : Place) (u v : List ℕ) (expected : Place → List ℕ) (one two : Bool)
    → ((x : Place) → IsOwnOf groups slot x → (x ≡ p) ⊎ (x ≡ q)) → IsOwnOf groups slot p → IsOwnOf groups slot q → p ≢ q
    → expected p ≡ u → expected q ≡ v → DidWrite c m p u one → DidWrite m e q v two → IsFinished groups c e slot expected
finished_two groups c m e slot p q u v expected one two own here_is there_is apart first second did also = record {
  own = λ x mine. elim (own x mine) [
    | inl is ↦ subst (λ y. (held e y ≡ over (held c y) (expected y)) ⊎ (held e y ≡ None)) (sym is)
        (subst (λ w. (held e p ≡ over (held c p) w) ⊎ (held e p ≡ None)) (sym first)
        (later (held c p) (held m p) (held e p) u (here (held c p) (held m p) u one did.here did.was) (also.nearby p apart)))
    | inr is ↦ subst (λ y. (held e y ≡ over (held c y) (expected y)) ⊎ (held e y ≡ None)) (sym is)
        (subst (λ w. (held e q ≡ over (held c q) w) ⊎ (held e q ≡ None)) (sym second)
        (here (held c q) (held e q) v two also.here (λ ok gone. was_there (held c q) (held m q) (did.nearby q (λ same. apart (sym same))) (also.was ok) gone)))
  ];
  others = λ x never. fades_trans _ _ _
      (did.nearby x (λ same. never (subst (IsOwnOf groups slot) (sym same) here_is)))
      (also.nearby x (λ same. never (subst (IsOwnOf groups slot) (sym same) there_is)));
}

-- what a note has for the places of a site: of a pair the unit, of a row the parity where it has one, and the unit
pub noted_pair : (site : Option Site) (p q : Place) (unit : List ℕ) (sum : Option (List ℕ)) → site ≡ Some (Pair p q) → (x : Place) → unit_noted site unit sum x ≡ unit
noted_pair site p q unit sum at x = ap (λ s. unit_noted s unit sum x) at

pub noted_alone : (site : Option Site) (row : List Place) (parity i : ℕ) (unit : List ℕ) → site ≡ Some (InStripe row parity i) → (x : Place) → unit_noted site unit None x ≡ unit
noted_alone site row parity i unit at x = ap (λ s. unit_noted s unit None x) at

noted_row : (site : Option Site) (row : List Place) (parity i : ℕ) (second : Place) (unit sum : List ℕ) → site ≡ Some (InStripe row parity i) → slice_get row parity ≡ Some second
    → (x : Place) → unit_noted site unit (Some sum) x ≡ expected_of second sum unit x
noted_row site row parity i second unit sum at is x = ap (λ s. unit_noted s unit (Some sum) x) at ∙ ap (λ o. if is_at o x then sum else unit) is

pub noted_parity : (site : Option Site) (row : List Place) (parity i : ℕ) (second : Place) (unit sum : List ℕ) → site ≡ Some (InStripe row parity i) → slice_get row parity ≡ Some second
    → unit_noted site unit (Some sum) second ≡ sum
noted_parity site row parity i second unit sum at is = noted_row site row parity i second unit sum at is second ∙ expected_here second sum unit

pub noted_home : (site : Option Site) (row : List Place) (parity i : ℕ) (home second : Place) (unit sum : List ℕ) → site ≡ Some (InStripe row parity i) → slice_get row parity ≡ Some second
    → home ≢ second → unit_noted site unit (Some sum) home ≡ unit
noted_home site row parity i home second unit sum at is apart = noted_row site row parity i second unit sum at is home ∙ expected_else second home sum unit (λ same. apart (sym same))

-- the places of a row that a write of its member may touch
pub own_row : (groups : Groups) (slot : ℕ) (row : List Place) (parity i : ℕ) (home second : Place) → site_of groups slot ≡ Some (InStripe row parity i)
    → slice_get row i ≡ Some home → slice_get row parity ≡ Some second → (x : Place) → IsOwnOf groups slot x → (x ≡ home) ⊎ (x ≡ second)
own_row groups slot row parity i home second at here_is there_is x own = elim (subst (λ s. IsOwn s x) (same_Some _ _ (sym own.1 ∙ at)) own.2) [
  | inl e ↦ inl (same_Some x home (sym e ∙ here_is))
  | inr e ↦ inr (same_Some x second (sym e ∙ there_is))
]

-- a whole row has its member and its parity on two drives
pub row_apart : (row : List Place) (parity i : ℕ) (home second : Place) → IsDriveDisjoint (InStripe row parity i) → slice_get row i ≡ Some home → slice_get row parity ≡ Some second → home ≢ second
row_apart row parity i home second whole here_is there_is same = whole.2 (whole.3 i parity home second here_is there_is (ap (λ (x : Place). x.drive) same))

-- of a row: what a plan wants at each place that holds something is what its note has for it
held_row : (c : Cells) (row : List Place) (i : ℕ) (home : Place) → slice_get row i ≡ Some home → row_of c row i ≡ held c home
held_row c row i home is = ap (held_in c) is

over_there : (a : Option (List ℕ)) (u : List ℕ) → (a ≡ None → ⊥) → over a u ≡ Some u
over_there None u some = absurd (some refl)
over_there (Some v) u some = refl

first_else : (a b : Option (List ℕ)) (u : List ℕ) → a ≡ Some u → or_else a b ≡ Some u
first_else a b u is = ap (λ o. or_else o b) is

pub home_expected : (groups : Groups) (c : Cells) (slot : ℕ) (row : List Place) (parity i : ℕ) (home : Place) (unit : List ℕ) (expected : Place → List ℕ) (writes : List Intended)
    → site_of groups slot ≡ Some (InStripe row parity i) → slice_get row i ≡ Some home → IsPlan groups c slot unit expected writes → (held c home ≡ None → ⊥) → expected home ≡ unit
home_expected groups c slot row parity i home unit expected writes at is plan some =
    let after_is : held (after c writes) home ≡ Some (expected home) = plan.planned.all home (InStripe row parity i, at, inl is) ∙ over_there (held c home) (expected home) some in
    plan.planned.wrote.unit (expected home) (slot_unit groups (after c writes) slot (InStripe row parity i) (unit_bytes groups) (Some (expected home)) at refl
    (first_else (row_of (after c writes) row i) _ (expected home) (held_row (after c writes) row i home is ∙ after_is)))

-- of the parity, given what its place holds
parity_in : (c : Cells) (expected : Place → List ℕ) (site : Option Site) (row : List Place) (parity i : ℕ) (second : Place) → site ≡ Some (InStripe row parity i) → slice_get row parity ≡ Some second
    → expected_parity c expected site ≡ over (held c second) (expected second)
parity_in c expected site row parity i second at is = ap (λ s. expected_parity c expected s) at ∙ ap (λ o. expected_in c expected o) is

pub row_noted : (groups : Groups) (c : Cells) (slot : ℕ) (row : List Place) (parity i : ℕ) (home second : Place) (unit : List ℕ) (expected : Place → List ℕ) (writes : List Intended) (sum : Option (List ℕ))
    → site_of groups slot ≡ Some (InStripe row parity i) → slice_get row i ≡ Some home → slice_get row parity ≡ Some second → home ≢ second
    → IsPlan groups c slot unit expected writes → sum ≡ expected_parity c expected (site_of groups slot)
    → (x : Place) → IsOwnOf groups slot x → (held c x ≡ None → ⊥) → expected x ≡ unit_noted (site_of groups slot) unit sum x
row_noted groups c slot row parity i home second unit expected writes sum at here_is there_is apart plan sum_is x own some = elim (own_row groups slot row parity i home second at here_is there_is x own) [
  | inl e ↦ subst (λ y. expected y ≡ unit_noted (site_of groups slot) unit sum y) (sym e)
      (home_expected groups c slot row parity i home unit expected writes at here_is plan (λ none. some (ap (held c) e ∙ none)) ∙ sym (at_home sum))
  | inr e ↦ subst (λ y. expected y ≡ unit_noted (site_of groups slot) unit sum y) (sym e)
      (sym (ap (λ o. unit_noted (site_of groups slot) unit o second) (sum_is ∙ parity_in c expected (site_of groups slot) row parity i second at there_is
      ∙ over_there (held c second) (expected second) (λ none. some (ap (held c) e ∙ none)))
      ∙ noted_parity (site_of groups slot) row parity i second unit (expected second) at there_is))
]
  where
    at_home : (o : Option (List ℕ)) → unit_noted (site_of groups slot) unit o home ≡ unit
    at_home None = noted_alone (site_of groups slot) row parity i unit at home
    at_home (Some s) = noted_home (site_of groups slot) row parity i home second unit s at there_is apart
