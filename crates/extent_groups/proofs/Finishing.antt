-- Planned writes that were begun and are finished later: for any prefix of them that was made, and any drives that were lost
-- since, the end is that of the whole, but for losses.
use Rattle.std.proofs.Common.{◌≡◌, ◌≢◌, ℕ, zero, suc, ◌==◌, ◌⊎◌, inl, inr, Bool, true, false, if◌then◌else◌, Option, Some, None, List, [], ◌∷◌, ◌++◌, take, length, Contains, refl, sym, ◌∙◌, ap, subst, arith}
use Rattle.std.specs.Prelude.{◌&&◌, slice_get}
use Rattle.std.proofs.lemmas.Bool.{ne_eqb, eq-eqb}
use Rattle.std.proofs.lemmas.Option.{same_Some, none-some}
use Rattle.extent_groups.specs.declared.place.Place.{Place}
use Rattle.extent_groups.specs.Groups.{Groups}
use Rattle.extent_groups.specs.Cells.{Cells, held}
use Rattle.extent_groups.specs.Calls.{Fades, FadesAt, if_ok, DidWrite}
use Rattle.extent_groups.specs.Layout.{IsLayout}
use Rattle.extent_groups.specs.Units.{Site, Pair, InStripe, site_of, unit_at, or_else, IsSoundAt}
use Rattle.extent_groups.specs.Stores.{unit_bytes, AreSound, IsOwn, IsOwnOf, WroteSlot, LeavesSites}
use Rattle.extent_groups.specs.Planned.{Intended, over, with_unit, after, AreOnce, IsWritePlan, IsFinished}
use Rattle.extent_groups.proofs.Places.{same_or_not}
use Rattle.extent_groups.proofs.Fading.{fades_trans, site_fades}
use Rattle.extent_groups.proofs.SlotWrites.{AreSizedCells, slots_fade, slot_leaves, unit_at_site}

-- two places are one or not
pub place_or_not : (x p : Place) → (x ≡ p) ⊎ (x ≢ p)
place_or_not x p = elim (same_or_not x.drive p.drive) [
  | inl d ↦ elim (same_or_not x.address p.address) [
    | inl a ↦ inl (ap (λ e. let q : Place = record { drive = e; address = x.address } in q) d ∙ ap (λ e. let q : Place = record { drive = p.drive; address = e } in q) a)
    | inr n ↦ inr (λ e. n (ap (λ (q : Place). q.address) e))
  ]
  | inr n ↦ inr (λ e. n (ap (λ (q : Place). q.drive) e))
]

-- a write's test of a place: it passes at its own, and at no other
at_own : (p : Place) → ((p.drive == p.drive) && (p.address == p.address)) ≡ true
at_own p = ap (λ b. b && (p.address == p.address)) (eq-eqb p.drive p.drive refl) ∙ eq-eqb p.address p.address refl

at_other : (p x : Place) → p ≢ x → ((x.drive == p.drive) && (x.address == p.address)) ≡ false
at_other p x apart = elim (same_or_not x.drive p.drive) [
  | inl d ↦ elim (same_or_not x.address p.address) [
    | inl a ↦ absurd (apart (sym (ap (λ e. let q : Place = record { drive = e; address = x.address } in q) d ∙ ap (λ e. let q : Place = record { drive = p.drive; address = e } in q) a)))
    | inr n ↦ ap (λ b. (x.drive == p.drive) && b) (ne_eqb x.address p.address n) ∙ never (x.drive == p.drive)
  ]
  | inr n ↦ ap (λ b. b && (x.address == p.address)) (ne_eqb x.drive p.drive n)
]
  where
    never : (b : Bool) → (b && false) ≡ false
    never true = refl
    never false = refl

-- a write gives its place the unit, and leaves other places
pub write_here : (c : Cells) (w : Intended) → held (with_unit c w) w.place ≡ over (held c w.place) w.unit
write_here c w = ap (λ b. if b then over (held c w.place) w.unit else held c w.place) (at_own w.place)

pub write_else : (c : Cells) (w : Intended) (x : Place) → w.place ≢ x → held (with_unit c w) x ≡ held c x
write_else c w x apart = ap (λ b. if b then over (held c x) w.unit else held c x) (at_other w.place x apart)

-- the later writes of a list are among all
following : (w : Intended) (ws : List Intended) (v : Intended) → Contains ws v → Contains (w ∷ ws) v
following w ws v has = let low = has.1 in (suc has.0, omega arith, has.2)

first : (w : Intended) (ws : List Intended) → Contains (w ∷ ws) w
first w ws = (0, omega arith, refl)

-- writes to other places leave a place, a prefix of them too
pub writes_else : (ws : List Intended) (c : Cells) (x : Place) → ((w : Intended) → Contains ws w → w.place ≢ x) → held (after c ws) x ≡ held c x
writes_else [] c x apart = refl
writes_else (w ∷ ws) c x apart = writes_else ws (with_unit c w) x (λ v has. apart v (following w ws v has)) ∙ write_else c w x (apart w (first w ws))

pub front_else : (ws : List Intended) (c : Cells) (n : ℕ) (x : Place) → ((w : Intended) → Contains ws w → w.place ≢ x) → held (after c (take n ws)) x ≡ held c x
front_else ws c zero x apart = refl
front_else [] c (suc n) x apart = refl
front_else (w ∷ ws) c (suc n) x apart = front_else ws (with_unit c w) n x (λ v has. apart v (following w ws v has)) ∙ write_else c w x (apart w (first w ws))

-- after a prefix of the writes a place holds what it held, or what it holds after all of them
pub front_or_all : (ws : List Intended) (c : Cells) (n : ℕ) (x : Place) → AreOnce ws
    → (held (after c (take n ws)) x ≡ held c x) ⊎ (held (after c (take n ws)) x ≡ held (after c ws) x)
front_or_all ws c zero x once = inl refl
front_or_all [] c (suc n) x once = inl refl
front_or_all (w ∷ ws) c (suc n) x once = elim (place_or_not w.place x) [
  | inl e ↦
      let later : (v : Intended) → Contains ws v → v.place ≢ x = λ v has same. once.0 v has (same ∙ sym e) in
      inr (front_else ws (with_unit c w) n x later ∙ sym (writes_else ws (with_unit c w) x later))
  | inr ne ↦ elim (front_or_all ws (with_unit c w) n x once.1) [
    | inl is ↦ inl (is ∙ write_else c w x ne)
    | inr is ↦ inr is
  ]
]

-- a write made twice leaves what it leaves once, and a unit that fades still fades after a write to both
over_twice : (a : Option (List ℕ)) (u : List ℕ) → over (over a u) u ≡ over a u
over_twice None u = refl
over_twice (Some v) u = refl

over_fades : (a b : Option (List ℕ)) (u : List ℕ) → Fades a b → Fades (over a u) (over b u)
over_fades a b u (inl same) = inl (ap (λ o. over o u) same)
over_fades a b u (inr gone) = inr (ap (λ o. over o u) gone)

-- whether a place is one that a write of a site, or of a slot, may touch
what_is : (o : Option Place) (x : Place) → (o ≡ Some x) ⊎ (o ≡ Some x → ⊥)
what_is None x = inr (λ e. none-some x e)
what_is (Some y) x = elim (place_or_not y x) [ inl e ↦ inl (ap (λ p. Some p) e) | inr ne ↦ inr (λ e. ne (same_Some y x e)) ]

either : {A B : Type 0} → A ⊎ (A → ⊥) → B ⊎ (B → ⊥) → (A ⊎ B) ⊎ (A ⊎ B → ⊥)
either (inl a) b = inl (inl a)
either (inr not_a) (inl b) = inl (inr b)
either (inr not_a) (inr not_b) = inr (λ h. elim h [ inl a ↦ not_a a | inr b ↦ not_b b ])

is_own : (site : Site) (x : Place) → IsOwn site x ⊎ (IsOwn site x → ⊥)
is_own (Pair p q) x = either (place_or_not x p) (place_or_not x q)
is_own (InStripe row parity i) x = either (what_is (slice_get row i) x) (what_is (slice_get row parity) x)

pub own_or_not : (groups : Groups) (slot : ℕ) (x : Place) → IsOwnOf groups slot x ⊎ (IsOwnOf groups slot x → ⊥)
own_or_not groups slot x = go (site_of groups slot) refl
  where
    go : (o : Option Site) → site_of groups slot ≡ o → IsOwnOf groups slot x ⊎ (IsOwnOf groups slot x → ⊥)
    go None e = inr (λ own. none-some own.0 (sym e ∙ own.1))
    go (Some site) e = elim (is_own site x) [
      | inl is ↦ inl (site, e, is)
      | inr never ↦ inr (λ own. never (subst (λ t. IsOwn t x) (same_Some own.0 site (sym own.1 ∙ e)) own.2))
    ]

-- for any prefix of the planned writes that was made, and any drives that were lost after it: once they are finished the drives
-- hold what they hold after all of the writes, but for losses
pub finished_fades : (groups : Groups) (c d e : Cells) (slot : ℕ) (unit : List ℕ) (expected : Place → List ℕ) (writes : List Intended) (n : ℕ)
    → IsWritePlan groups c slot unit expected writes → ((x : Place) → FadesAt (after c (take n writes)) d x) → IsFinished groups d e slot expected
    → (x : Place) → FadesAt (after c writes) e x
finished_fades groups c d e slot unit expected writes n planned stopped done x = elim (own_or_not groups slot x) [
  | inl own ↦ elim (done.own x own) [
    | inr gone ↦ inr gone
    | inl is ↦
        let again : over (held (after c (take n writes)) x) (expected x) ≡ held (after c writes) x = elim (front_or_all writes c n x planned.once) [
          | inl was ↦ ap (λ o. over o (expected x)) was ∙ sym (planned.all x own)
          | inr was ↦ ap (λ o. over o (expected x)) (was ∙ planned.all x own) ∙ over_twice (held c x) (expected x) ∙ sym (planned.all x own)
        ] in
        fades_trans _ _ _ (subst (λ o. Fades o (over (held d x) (expected x))) again (over_fades _ _ (expected x) (stopped x))) (inl is)
  ]
  | inr never ↦
      let others : (w : Intended) → Contains writes w → w.place ≢ x = λ w has same. never (subst (IsOwnOf groups slot) same (planned.own w has).0) in
      let same : held (after c (take n writes)) x ≡ held (after c writes) x = front_else writes c n x others ∙ sym (writes_else writes c x others) in
      fades_trans _ _ _ (subst (λ o. Fades o (held d x)) same (stopped x)) (done.others x never)
]

-- what all writes leave has the size of what was there
sized_over : (size : ℕ) (a : Option (List ℕ)) (u : List ℕ) → length u ≡ size → (v : List ℕ) → over a u ≡ Some v → length v ≡ size
sized_over size None u long v e = absurd (none-some v e)
sized_over size (Some w) u long v e = ap length (sym (same_Some u v e)) ∙ long

pub after_sized : (groups : Groups) (c : Cells) (slot : ℕ) (unit : List ℕ) (expected : Place → List ℕ) (writes : List Intended) (size : ℕ)
    → IsWritePlan groups c slot unit expected writes → ((x : Place) → length (expected x) ≡ size) → AreSizedCells size c → AreSizedCells size (after c writes)
after_sized groups c slot unit expected writes size planned long sized x u e = elim (own_or_not groups slot x) [
  | inl own ↦ sized_over size (held c x) (expected x) (long x) u (sym (planned.all x own) ∙ e)
  | inr never ↦
      let others : (w : Intended) → Contains writes w → w.place ≢ x = λ w has same. never (subst (IsOwnOf groups slot) same (planned.own w has).0) in
      sized x u (sym (writes_else writes c x others) ∙ e)
]

-- so the slot was written, for any prefix of the writes that was made before the stop
pub finished_wrote : (groups : Groups) (c d e : Cells) (slot : ℕ) (unit : List ℕ) (expected : Place → List ℕ) (writes : List Intended) (n : ℕ)
    → IsLayout groups → AreSizedCells (unit_bytes groups) c → ((x : Place) → length (expected x) ≡ unit_bytes groups)
    → IsWritePlan groups c slot unit expected writes → ((x : Place) → FadesAt (after c (take n writes)) d x) → IsFinished groups d e slot expected
    → AreSound groups c → WroteSlot groups c e slot unit
finished_wrote groups c d e slot unit expected writes n layout sized long planned stopped done sound =
    let kept = slots_fade groups (after c writes) e layout (after_sized groups c slot unit expected writes (unit_bytes groups) planned long sized) (planned.wrote.sound sound)
    (finished_fades groups c d e slot unit expected writes n planned stopped done) in
    record {
      unit = λ v is. planned.wrote.unit v (kept.0 slot v is);
      others = λ _ other v ne is. planned.wrote.others sound other v ne (kept.0 other v is);
      sound = λ _. kept.1;
    }

-- the writes of a site's own places that give it the unit are planned ones of its slot
pub planned_site : (groups : Groups) (c : Cells) (slot : ℕ) (site : Site) (unit : List ℕ) (expected : Place → List ℕ) (writes : List Intended) → IsLayout groups → site_of groups slot ≡ Some site
    → AreOnce writes → ((w : Intended) → Contains writes w → IsOwn site w.place × (w.unit ≡ expected w.place))
    → ((x : Place) → IsOwn site x → held (after c writes) x ≡ over (held c x) (expected x))
    → unit_at (unit_bytes groups) (after c writes) site ≡ Some unit
    → (IsSoundAt (unit_bytes groups) c site → LeavesSites (unit_bytes groups) c (after c writes) site)
    → IsWritePlan groups c slot unit expected writes
planned_site groups c slot site unit expected writes layout at once own all is leaves = record {
  once = once;
  own = λ w has. ((site, at, (own w has).0), (own w has).1);
  all = λ x mine. all x (subst (λ t. IsOwn t x) (same_Some mine.0 site (sym mine.1 ∙ at)) mine.2);
  wrote = record {
    unit = λ v e. same_Some v unit (sym e ∙ unit_at_site groups (after c writes) slot site at ∙ is);
    others = λ sound. (slot_leaves groups c (after c writes) slot site layout sound at (leaves (sound slot site at))).0;
    sound = λ sound. (slot_leaves groups c (after c writes) slot site layout sound at (leaves (sound slot site at))).1;
  };
}

-- of two places: the first and the second unit for them
abbrev pub expected_of : Place → List ℕ → List ℕ → Place → List ℕ
expected_of home unit other x = if (x.drive == home.drive) && (x.address == home.address) then unit else other

pub expected_here : (home : Place) (unit other : List ℕ) → expected_of home unit other home ≡ unit
expected_here home unit other = ap (λ b. if b then unit else other) (at_own home)

pub expected_else : (home x : Place) (unit other : List ℕ) → home ≢ x → expected_of home unit other x ≡ other
expected_else home x unit other apart = ap (λ b. if b then unit else other) (at_other home x apart)

-- the members of a list of one, and of a list of two
pub among_one : (v w : Intended) → Contains (v ∷ []) w → v ≡ w
among_one v w (zero, low, e) = e
among_one v w (suc k, low, e) = absurd (omega (arith, low))

pub among_two : (u v w : Intended) → Contains (u ∷ v ∷ []) w → (u ≡ w) ⊎ (v ≡ w)
among_two u v w (zero, low, e) = inl e
among_two u v w (suc zero, low, e) = inr e
among_two u v w (suc (suc k), low, e) = absurd (omega (arith, low))

-- both copies of a pair, one of them or both there
pub planned_pair : (groups : Groups) (c : Cells) (slot : ℕ) (p q : Place) (unit : List ℕ) → IsLayout groups → site_of groups slot ≡ Some (Pair p q) → AreSizedCells (unit_bytes groups) c
    → p.drive ≢ q.drive → ((held c p ≡ None) × (held c q ≡ None) → ⊥)
    → IsWritePlan groups c slot unit (λ x. unit) (record { place = p; unit = unit } ∷ record { place = q; unit = unit } ∷ [])
planned_pair groups c slot p q unit layout at sized apart some =
    planned_site groups c slot (Pair p q) unit (λ x. unit) writes layout at ((λ v has same. differ (sym same ∙ ap (λ (w : Intended). w.place) (sym (among_one two v has)))), ((λ v has. absurd (none_in v has)), tt))
    (λ w has. (
      elim (among_two one two w has) [ inl e ↦ inl (ap (λ (v : Intended). v.place) (sym e)) | inr e ↦ inr (ap (λ (v : Intended). v.place) (sym e)) ],
      elim (among_two one two w has) [ inl e ↦ ap (λ (v : Intended). v.unit) (sym e) | inr e ↦ ap (λ (v : Intended). v.unit) (sym e) ],
    ))
    (λ x own. elim own [
      | inl e ↦ subst (λ y. held (after c writes) y ≡ over (held c y) unit) (sym e) first_is
      | inr e ↦ subst (λ y. held (after c writes) y ≡ over (held c y) unit) (sym e) second_is
    ])
    (ap (λ o. or_else o (held (after c writes) q)) first_is ∙ ap (or_else (over (held c p) unit)) second_is ∙ one_is (held c p) (held c q) some)
    (λ sound. record {
      sound = λ u v eu ev. sym (only_unit (held c p) u (sym first_is ∙ eu)) ∙ only_unit (held c q) v (sym second_is ∙ ev);
      others = λ t whole nearby ok. elim nearby [
        | inl away ↦ site_fades (unit_bytes groups) c (after c writes) t sized whole
            (λ x of. inl (writes_else writes c x (λ w has same. elim (among_two one two w has) [
              | inl e ↦ away x (inl (sym same ∙ ap (λ (v : Intended). v.place) (sym e))) of
              | inr e ↦ away x (inr (sym same ∙ ap (λ (v : Intended). v.place) (sym e))) of
            ]))) ok
        | inr never ↦ absurd never
      ];
    })
  where
    one : Intended
    one = record { place = p; unit = unit }

    two : Intended
    two = record { place = q; unit = unit }

    writes : List Intended
    writes = one ∷ two ∷ []

    differ : p ≡ q → ⊥
    differ e = apart (ap (λ (x : Place). x.drive) e)

    none_in : (v : Intended) → Contains {X = Intended} [] v → ⊥
    none_in v has = let low = has.1 in absurd (omega arith)

    first_is : held (after c writes) p ≡ over (held c p) unit
    first_is = write_else (with_unit c one) two p (λ e. differ (sym e)) ∙ write_here c one

    second_is : held (after c writes) q ≡ over (held c q) unit
    second_is = write_here (with_unit c one) two ∙ ap (λ o. over o unit) (write_else c one q differ)

    one_is : (a b : Option (List ℕ)) → ((a ≡ None) × (b ≡ None) → ⊥) → or_else (over a unit) (over b unit) ≡ Some unit
    one_is (Some v) b some = refl
    one_is None (Some w) some = refl
    one_is None None some = absurd (some (refl, refl))

    only_unit : (a : Option (List ℕ)) (v : List ℕ) → over a unit ≡ Some v → unit ≡ v
    only_unit None v e = absurd (none-some v e)
    only_unit (Some w) v e = same_Some unit v e

-- one write of a list was made, or its drive is lost: the drives hold what the next prefix of the list leaves, but for losses
pub fades_more : (c d e : Cells) (ws : List Intended) (w : Intended) (ok : Bool) → ((x : Place) → FadesAt (after c ws) d x) → DidWrite d e w.place w.unit ok
    → (x : Place) → FadesAt (after c (ws ++ w ∷ [])) e x
fades_more c d e ws w ok matches did x = elim (place_or_not w.place x) [
  | inl same ↦ subst (λ y. FadesAt (after c (ws ++ w ∷ [])) e y) same (subst (λ o. Fades o (held e w.place)) (sym (ap (λ (a : Cells). held a w.place) (after_last ws c w) ∙ write_here (after c ws) w))
      (here (held (after c ws) w.place) (held d w.place) (held e w.place) ok (matches w.place) did.here did.was))
  | inr apart ↦ subst (λ o. Fades o (held e x)) (sym (ap (λ (a : Cells). held a x) (after_last ws c w) ∙ write_else (after c ws) w x apart))
      (fades_trans _ _ _ (matches x) (did.nearby x (λ other. apart (sym other))))
]
  where
    after_last : (ws : List Intended) (c : Cells) (w : Intended) → after c (ws ++ w ∷ []) ≡ with_unit (after c ws) w
    after_last [] c w = refl
    after_last (v ∷ ws) c w = after_last ws (with_unit c v) w

    here : (a b f : Option (List ℕ)) (ok : Bool) → Fades a b → f ≡ if_ok ok w.unit → (ok ≡ true → b ≡ None → ⊥) → Fades (over a w.unit) f
    here a b f false fades is was = inr is
    here None None f true fades is was = absurd (was refl refl)
    here None (Some v) f true (inl same) is was = absurd (none-some v (sym same))
    here None (Some v) f true (inr gone) is was = absurd (was refl gone)
    here (Some u) b f true fades is was = inl is

-- one copy alone, where the other's drive is lost
pub planned_one : (groups : Groups) (c : Cells) (slot : ℕ) (p q x y : Place) (unit : List ℕ) → IsLayout groups → site_of groups slot ≡ Some (Pair p q) → AreSizedCells (unit_bytes groups) c
    → p.drive ≢ q.drive → ((x ≡ p) × (y ≡ q)) ⊎ ((x ≡ q) × (y ≡ p)) → (held c x ≡ None → ⊥) → held c y ≡ None
    → IsWritePlan groups c slot unit (λ z. unit) (record { place = x; unit = unit } ∷ [])
planned_one groups c slot p q x y unit layout at sized apart which there gone =
    planned_site groups c slot (Pair p q) unit (λ z. unit) writes layout at ((λ v has. absurd (none_in v has)), tt)
    (λ w has. (subst (λ (v : Intended). IsOwn (Pair p q) v.place) (among_one one w has) own, ap (λ (v : Intended). v.unit) (sym (among_one one w has))))
    (λ z mine. elim (same_two z mine) [
      | inl e ↦ subst (λ a. held (after c writes) a ≡ over (held c a) unit) (sym e) here
      | inr e ↦ subst (λ a. held (after c writes) a ≡ over (held c a) unit) (sym e) (away_is ∙ sym (ap (λ o. over o unit) gone))
    ])
    (both_sides which)
    (λ sound. record {
      sound = λ u v eu ev. sides_equal which u v eu ev;
      others = λ t whole nearby ok. elim nearby [
        | inl off ↦ site_fades (unit_bytes groups) c (after c writes) t sized whole (λ z of. inl (write_else c one z (λ e. off z (subst (IsOwn (Pair p q)) e own) of))) ok
        | inr never ↦ absurd never
      ];
    })
  where
    one : Intended
    one = record { place = x; unit = unit }

    writes : List Intended
    writes = one ∷ []

    none_in : (v : Intended) → Contains {X = Intended} [] v → ⊥
    none_in v has = let low = has.1 in absurd (omega arith)

    own : IsOwn (Pair p q) x
    own = elim which [ inl e ↦ inl e.0 | inr e ↦ inr e.0 ]

    same_two : (z : Place) → IsOwn (Pair p q) z → (z ≡ x) ⊎ (z ≡ y)
    same_two z (inl e) = elim which [ inl w ↦ inl (e ∙ sym w.0) | inr w ↦ inr (e ∙ sym w.1) ]
    same_two z (inr e) = elim which [ inl w ↦ inr (e ∙ sym w.1) | inr w ↦ inl (e ∙ sym w.0) ]

    x_not_y : x ≡ y → ⊥
    x_not_y e = elim which [
      | inl w ↦ apart (ap (λ (z : Place). z.drive) (sym w.0 ∙ e ∙ w.1))
      | inr w ↦ apart (ap (λ (z : Place). z.drive) (sym w.1 ∙ sym e ∙ w.0))
    ]

    here : held (after c writes) x ≡ over (held c x) unit
    here = write_here c one

    away_is : held (after c writes) y ≡ None
    away_is = write_else c one y x_not_y ∙ gone

    some_is : (a : Option (List ℕ)) → (a ≡ None → ⊥) → over a unit ≡ Some unit
    some_is None h = absurd (h refl)
    some_is (Some v) h = refl

    here_some : held (after c writes) x ≡ Some unit
    here_some = here ∙ some_is (held c x) there

    both_sides : ((x ≡ p) × (y ≡ q)) ⊎ ((x ≡ q) × (y ≡ p)) → or_else (held (after c writes) p) (held (after c writes) q) ≡ Some unit
    both_sides (inl w) = ap (λ o. or_else o (held (after c writes) q)) (ap (held (after c writes)) (sym w.0) ∙ here_some)
    both_sides (inr w) = ap (λ o. or_else o (held (after c writes) q)) (ap (held (after c writes)) (sym w.1) ∙ away_is) ∙ ap (held (after c writes)) (sym w.0) ∙ here_some

    sides_equal : ((x ≡ p) × (y ≡ q)) ⊎ ((x ≡ q) × (y ≡ p)) → (u v : List ℕ) → held (after c writes) p ≡ Some u → held (after c writes) q ≡ Some v → u ≡ v
    sides_equal (inl w) u v eu ev = absurd (none-some v (sym (ap (held (after c writes)) (sym w.1) ∙ away_is) ∙ ev))
    sides_equal (inr w) u v eu ev = absurd (none-some u (sym (ap (held (after c writes)) (sym w.1) ∙ away_is) ∙ eu))
