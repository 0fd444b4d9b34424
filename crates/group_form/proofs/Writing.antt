-- What a batch with units of groups leaves.
use Rattle.std.proofs.Common.{◌≡◌, ◌≢◌, ◌<◌, ◌+◌, inl, inr, ℕ, suc, true, Option, Some, None, is_some, List, [], ◌∷◌, ◌++◌, sym, ◌∙◌, ap, subst, refl, arith}
use Rattle.extent_groups.specs.declared.place.Place.{Place}
use Rattle.extent_groups.specs.Cells.{Cells, held}
use Rattle.extent_groups.specs.Planned.{Intended, after, over}
use Rattle.extent_groups.proofs.Finishing.{write_here, write_else}
use Rattle.extent_groups.proofs.Places.{same_or_not}
use Rattle.vault.proofs.Writes.{after_both, some_after}
use Rattle.extent_groups.specs.Groups.{Groups}
use Rattle.group_form.specs.Form.{HasFormPlaces, HasGroups, SameButGroups, count_unit, form_write, group_unit}

pub over_there : (o : Option (List ℕ)) (unit : List ℕ) → is_some o ≡ true → over o unit ≡ Some unit
over_there (Some old) unit there = refl
over_there None unit there = absurd (cc)

module _ (batch : List Intended) (i : ℕ) (unit : List ℕ) (c : Cells) where
  abbrev w : Intended
  w = form_write i unit

  abbrev more : List Intended
  more = batch ++ w ∷ []

  -- at the unit's place
  pub unit_here : i < 1025 → HasFormPlaces c → after c more 16 (suc i) ≡ Some unit
  unit_here low there =
      let next : i + 1 ≡ suc i = omega arith in
      subst (λ a. after c more 16 a ≡ Some unit) next
      (ap (λ (e : Cells). e 16 (i + 1)) (after_both batch (w ∷ []) c) ∙ (write_here (after c batch) w
      ∙ over_there (held (after c batch) w.place) unit (some_after batch c w.place ∙ subst (λ a. is_some (c 16 a) ≡ true) (sym next) (there i low))))

  -- at another place
  pub unit_apart : (x : Place) → (x.drive ≡ 16 → x.address ≢ i + 1) → held (after c more) x ≡ held (after c batch) x
  unit_apart x ne = ap (λ (e : Cells). held e x) (after_both batch (w ∷ []) c)
      ∙ write_else (after c batch) w x (λ e. ne (sym (ap (λ (p : Place). p.drive) e)) (sym (ap (λ (p : Place). p.address) e)))

  -- the units before it
  pub units_more : (P : ℕ → List ℕ) → i < 1025 → HasFormPlaces c → unit ≡ P i → ((u : ℕ) → u < i → after c batch 16 (suc u) ≡ Some (P u))
      → (u : ℕ) → u < i + 1 → after c more 16 (suc u) ≡ Some (P u)
  units_more P low there is before u below = elim (same_or_not u i) [
    | inl same ↦ subst (λ k. after c more 16 (suc k) ≡ Some (P k)) (sym same) (unit_here low there ∙ ap Some is)
    | inr ne ↦ unit_apart (record { drive = 16; address = suc u }) (λ d e. ne (omega (arith, e))) ∙ before u (grind arith)
  ]

  pub unit_others : SameButGroups (after c more) (after c batch)
  unit_others x apart = unit_apart x (λ at e. elim apart [ inl ne ↦ absurd (ne at) | inr none ↦ absurd (omega (arith, e, none)) ])

-- with that write, or without it
pub others_put : (batch now : List Intended) (i : ℕ) (unit : List ℕ) → now ≡ batch ++ form_write i unit ∷ [] → (c : Cells) → SameButGroups (after c now) (after c batch)
others_put batch now i unit is c = subst (λ ws. SameButGroups (after c ws) (after c batch)) (sym is) (unit_others batch i unit c)

pub others_kept : (batch now : List Intended) → now ≡ batch → (c : Cells) → SameButGroups (after c now) (after c batch)
others_kept batch now is c x apart = ap (λ ws. held (after c ws) x) is

pub others_more : (b c d : Cells) → SameButGroups d c → SameButGroups c b → SameButGroups d b
others_more b c d one two x apart = one x apart ∙ two x apart

-- all units
pub all_put : (groups : Groups) (count : ℕ) (batch now : List Intended) (unit : List ℕ) → now ≡ batch ++ form_write 1024 unit ∷ [] → unit ≡ count_unit count
    → ((c : Cells) → HasFormPlaces c → (u : ℕ) → u < 1024 → after c batch 16 (suc u) ≡ Some (group_unit groups u))
    → (c : Cells) → HasFormPlaces c → HasGroups groups count (after c now)
all_put groups count batch now unit put is before c there = subst (λ ws. HasGroups groups count (after c ws)) (sym put) (record {
  each = λ u low. unit_apart batch 1024 unit c (record { drive = 16; address = suc u }) (λ d e. omega (arith, e, low)) ∙ before c there u low;
  last = unit_here batch 1024 unit c (omega arith) there ∙ ap Some is;
})

-- one more
pub more_put : (groups : Groups) (batch now : List Intended) (i : ℕ) (unit : List ℕ) → now ≡ batch ++ form_write i unit ∷ [] → unit ≡ group_unit groups i → i < 1025
    → ((c : Cells) → HasFormPlaces c → (u : ℕ) → u < i → after c batch 16 (suc u) ≡ Some (group_unit groups u))
    → (c : Cells) → HasFormPlaces c → (u : ℕ) → u < i + 1 → after c now 16 (suc u) ≡ Some (group_unit groups u)
more_put groups batch now i unit put is low before c there u below =
    subst (λ ws. after c ws 16 (suc u) ≡ Some (group_unit groups u)) (sym put) (units_more batch i unit c (group_unit groups) low there is (before c there) u below)
