-- The list of a plan: of a pair, and of two places of a row; and the writes of a pair, one call after the other.
use Rattle.std.proofs.Common.{◌≡◌, ◌≢◌, ℕ, inl, inr, Bool, true, false, if◌then◌else◌, Option, Some, None, List, [], ◌∷◌, length, refl, sym, ◌∙◌, ap}
use Rattle.std.specs.Prelude.{◌==◌, ◌&&◌, slice_get}
use Rattle.std.proofs.lemmas.Option.{none-some}
use Rattle.extent_groups.specs.declared.place.Place.{Place}
use Rattle.extent_groups.specs.Groups.{Groups}
use Rattle.extent_groups.specs.Cells.{Cells, held}
use Rattle.extent_groups.specs.Calls.{FadesAt, DidWrite}
use Rattle.extent_groups.specs.Layout.{IsLayout}
use Rattle.extent_groups.specs.Units.{Pair, InStripe, site_of}
use Rattle.extent_groups.specs.Stores.{unit_bytes}
use Rattle.extent_groups.specs.Planned.{Intended, over, after, before, places_in, if_held, present, expected_in, expected_parity, IsWritePlan, IsPlan}
use Rattle.extent_groups.proofs.Fading.{fades_trans}
use Rattle.extent_groups.proofs.SlotWrites.{AreSizedCells}
use Rattle.extent_groups.proofs.Finishing.{place_or_not, planned_pair, planned_one, expected_of, fades_more}

-- a refused write changes nothing that is still there
pub refused_fades : (c new : Cells) (p : Place) (u : List ℕ) → DidWrite c new p u false → (x : Place) → FadesAt c new x
refused_fades c new p u w x = elim (place_or_not x p) [
  | inl e ↦ inr (ap (held new) e ∙ w.here)
  | inr ne ↦ w.nearby x ne
]

-- so does a write of a place that holds no unit
lost_fades : (c new : Cells) (p : Place) (u : List ℕ) (ok : Bool) → held c p ≡ None → DidWrite c new p u ok → (x : Place) → FadesAt c new x
lost_fades c new p u true gone w = absurd (w.was refl gone)
lost_fades c new p u false gone w = refused_fades c new p u w

-- a site of two places
pair_list : (groups : Groups) (c : Cells) (slot : ℕ) (p q : Place) (expected : Place → List ℕ) → site_of groups slot ≡ Some (Pair p q)
    → present c expected (places_in (site_of groups slot)) ≡ present c expected (p ∷ q ∷ [])
pair_list groups c slot p q expected at = ap (λ s. present c expected (places_in s)) at

-- the plan of both copies, as far as they are there
pub pair_plan : (groups : Groups) (c : Cells) (slot : ℕ) (p q : Place) (unit : List ℕ) → IsLayout groups → site_of groups slot ≡ Some (Pair p q) → AreSizedCells (unit_bytes groups) c
    → p.drive ≢ q.drive → length unit ≡ unit_bytes groups → ((held c p ≡ None) × (held c q ≡ None) → ⊥)
    → IsPlan groups c slot unit (λ x. unit) (present c (λ x. unit) (p ∷ q ∷ []))
pair_plan groups c slot p q unit layout at sized apart long some = record {
  sized = λ x. long;
  planned = go (held c p) (held c q) refl refl;
  listed = sym (pair_list groups c slot p q (λ x. unit) at);
}
  where
    go : (a b : Option (List ℕ)) → held c p ≡ a → held c q ≡ b
        → IsWritePlan groups c slot unit (λ x. unit) (if_held a (record { place = p; unit = unit }) (if_held b (record { place = q; unit = unit }) []))
    go None None ea eb = absurd (some (ea, eb))
    go (Some u) None ea eb = planned_one groups c slot p q p q unit layout at sized apart (inl (refl, refl)) (λ e. none-some u (sym e ∙ ea)) eb
    go None (Some v) ea eb = planned_one groups c slot p q q p unit layout at sized apart (inr (refl, refl)) (λ e. none-some v (sym e ∙ eb)) ea
    go (Some u) (Some v) ea eb = planned_pair groups c slot p q unit layout at sized apart some

module _ (c one two : Cells) (p q : Place) (u : List ℕ) (a b : Bool) (apart : p.drive ≢ q.drive) (first : DidWrite c one p u a) (second : DidWrite one two q u b) where
  still : held c q ≡ None → held one q ≡ None
  still gone = first.elsewhere q (λ e. apart (sym e)) ∙ gone

  -- both copies are written, one call after the other: the list of those that are there was carried out
  pub pair_written : (x : Place) → FadesAt (after c (present c (λ y. u) (p ∷ q ∷ []))) two x
  pair_written = go (held c p) (held c q) refl refl
    where
      go : (s t : Option (List ℕ)) → held c p ≡ s → held c q ≡ t
          → (x : Place) → FadesAt (after c (if_held s (record { place = p; unit = u }) (if_held t (record { place = q; unit = u }) []))) two x
      go None None es et = λ x. fades_trans (held c x) (held one x) (held two x) (lost_fades c one p u a es first x) (lost_fades one two q u b (still et) second x)
      go (Some v) None es et = λ x.
          fades_trans _ (held one x) (held two x) (fades_more c c one [] (record { place = p; unit = u }) a (λ y. inl refl) first x) (lost_fades one two q u b (still et) second x)
      go None (Some w) es et = fades_more c one two [] (record { place = q; unit = u }) b (lost_fades c one p u a es first) second
      go (Some v) (Some w) es et =
          fades_more c one two (record { place = p; unit = u } ∷ []) (record { place = q; unit = u }) b (fades_more c c one [] (record { place = p; unit = u }) a (λ y. inl refl) first) second

  -- one is made: a copy was there
  pub first_there : a ≡ true → held c p ≡ None → ⊥
  first_there ea = first.was ea

-- a write is listed where its place holds a unit, and not where it holds none
pub held_some : (a : Option (List ℕ)) (w : Intended) (ws : List Intended) → (a ≡ None → ⊥) → if_held a w ws ≡ w ∷ ws
held_some None w ws some = absurd (some refl)
held_some (Some v) w ws some = refl

-- the list of a pair by what both hold
pub both_listed : (c : Cells) (expected : Place → List ℕ) (p q : Place) → (held c p ≡ None → ⊥) → (held c q ≡ None → ⊥)
    → present c expected (p ∷ q ∷ []) ≡ record { place = p; unit = expected p } ∷ record { place = q; unit = expected q } ∷ []
both_listed c expected p q here there =
    let w : Intended = record { place = p; unit = expected p } in
    held_some (held c p) w _ here ∙ ap (λ l. w ∷ l) (held_some (held c q) (record { place = q; unit = expected q }) [] there)

pub first_listed : (c : Cells) (expected : Place → List ℕ) (p q : Place) → (held c p ≡ None → ⊥) → held c q ≡ None → present c expected (p ∷ q ∷ []) ≡ record { place = p; unit = expected p } ∷ []
first_listed c expected p q here gone =
    let w : Intended = record { place = p; unit = expected p } in
    held_some (held c p) w _ here ∙ ap (λ o. w ∷ if_held o (record { place = q; unit = expected q }) []) gone

pub second_listed : (c : Cells) (expected : Place → List ℕ) (p q : Place) → held c p ≡ None → (held c q ≡ None → ⊥) → present c expected (p ∷ q ∷ []) ≡ record { place = q; unit = expected q } ∷ []
second_listed c expected p q gone there =
    ap (λ o. if_held o (record { place = p; unit = expected p }) (if_held (held c q) (record { place = q; unit = expected q }) [])) gone ∙ held_some (held c q) (record { place = q; unit = expected q }) [] there

-- the list of a member of a row, by what its own place and the parity's hold
pub stripe_list : (groups : Groups) (c : Cells) (slot : ℕ) (row : List Place) (k i : ℕ) (home parity : Place) (expected : Place → List ℕ) (u s : List ℕ) (a b : Option (List ℕ))
    → site_of groups slot ≡ Some (InStripe row k i) → slice_get row i ≡ Some home → slice_get row k ≡ Some parity → expected home ≡ u → expected parity ≡ s → held c home ≡ a → held c parity ≡ b
    → present c expected (places_in (site_of groups slot)) ≡ if_held a (record { place = home; unit = u }) (if_held b (record { place = parity; unit = s }) [])
stripe_list groups c slot row k i home parity expected u s a b at home_is parity_is hu hs ha hb =
    ap (λ t. present c expected (places_in t)) at
    ∙ ap (λ o. present c expected (before o (before (slice_get row k) []))) home_is
    ∙ ap (λ o. present c expected (home ∷ before o [])) parity_is
    ∙ λ j. if_held (ha j) (record { place = home; unit = hu j }) (if_held (hb j) (record { place = parity; unit = hs j }) [])

-- and what is wanted of its parity
pub stripe_parity : (groups : Groups) (c : Cells) (slot : ℕ) (row : List Place) (k i : ℕ) (parity : Place) (expected : Place → List ℕ) (s : List ℕ) (b : Option (List ℕ))
    → site_of groups slot ≡ Some (InStripe row k i) → slice_get row k ≡ Some parity → expected parity ≡ s → held c parity ≡ b
    → expected_parity c expected (site_of groups slot) ≡ over b s
stripe_parity groups c slot row k i parity expected s b at parity_is hs hb =
    ap (expected_parity c expected) at ∙ ap (expected_in c expected) parity_is ∙ λ j. over (hb j) (hs j)

-- what is wanted of two places has a unit's size where both units have it
pub expected_sized : (home x : Place) (unit other : List ℕ) (n : ℕ) → length unit ≡ n → length other ≡ n → length (expected_of home unit other x) ≡ n
expected_sized home x unit other n one two = either ((x.drive == home.drive) && (x.address == home.address))
  where
    either : (b : Bool) → length (if b then unit else other) ≡ n
    either true = one
    either false = two
