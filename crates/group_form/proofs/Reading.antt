-- What is read of a vault's table.
use Rattle.std.proofs.Common.{◌≡◌, ◌≢◌, ◌⊎◌, ◌<◌, ◌+◌, inl, inr, ℕ, zero, suc, Option, Some, None, List, [], ◌∷◌, ◌++◌, length, take, slice_get, slice_set, refl, sym, ◌∙◌, ap, subst, arith}
use Rattle.std.specs.Prelude.{true, is_some, Err, IfOk, IfSome, Ok, Result, option_map}
use Rattle.std.proofs.lemmas.Option.{same_Some, none-some, slice_get_cases, slice_get_within}
use Rattle.extent_groups.specs.Cells.{Cells, held}
use Rattle.extent_groups.specs.Groups.{Groups}
use Rattle.extent_groups.specs.Planned.{Intended, after, over, with_unit}
use Rattle.extent_groups.specs.declared.place.Place.{Place}
use Rattle.extent_groups.proofs.Finishing.{write_here, write_else}
use Rattle.extent_groups.proofs.Places.{same_or_not, get-set_other, get-set_same}
use Rattle.vault.specs.Images.{Image, flat}
use Rattle.vault.specs.Moments.{Elapses}
use Rattle.vault.specs.declared.store.Stop.{Stop}
use Rattle.vault.proofs.Writes.{after_both, flat_last, take_next}
use Rattle.vault.specs.Attested.{IsLastIfAttested}
use Rattle.group_form.specs.Form.{AreFormLastIfAttested, HasGroups, SpellsGroups, count_unit, group_unit}
use Rattle.group_form.specs.Reading.{AreKnownOf, AreUnitsOf, OnlyReadsVault}
use Rattle.group_form.proofs.Writing.{over_there}

-- a write of a batch, by its place and its unit
abbrev pub write : Place → List ℕ → Intended
write place unit = record { place = place; unit = unit }

pub write_is : (o : Option Intended) (place : Place) (unit : List ℕ) → option_map (λ w. w.place) o ≡ Some place → option_map (λ w. w.unit) o ≡ Some unit → o ≡ Some (write place unit)
write_is None place unit p u = absurd (none-some place p)
write_is (Some w) place unit p u = ap (λ x. Some (write x w.unit)) (same_Some _ _ p) ∙ ap (λ x. Some (write place x)) (same_Some _ _ u)

-- one write more, and one batch more
pub after_more : (c : Cells) (ws : List Intended) (i : ℕ) (w : Intended) → slice_get ws i ≡ Some w → after c (take (i + 1) ws) ≡ with_unit (after c (take i ws)) w
after_more c ws i w at = ap (λ vs. after c vs) (take_next ws i w at) ∙ after_both (take i ws) (w ∷ []) c

pub after_batch : (c : Cells) (batches : List (List Intended)) (i : ℕ) (batch : List Intended) → slice_get batches i ≡ Some batch
    → after c (flat (take (i + 1) batches)) ≡ after (after c (flat (take i batches))) batch
after_batch c batches i batch at =
    ap (λ bs. after c (flat bs)) (take_next batches i batch at) ∙ (ap (λ ws. after c ws) (flat_last (take i batches) batch) ∙ after_both (flat (take i batches)) batch c)

-- a write for another place than those of the units
pub laid_else : (units : List (Option (List ℕ))) (c : Cells) (place : Place) (unit : List ℕ) → (place.drive ≢ 16) ⊎ ((place.address ≡ 0) ⊎ (length units < place.address))
    → AreKnownOf units c → AreKnownOf units (with_unit c (write place unit))
laid_else units c place unit apart are = record {
  each = λ u x e. same u (Some x) e ∙ are.each u x e;
  there = λ u o e. ap is_some (same u o e) ∙ are.there u o e;
}
  where
    by : (u : ℕ) → u < length units → place ≡ record { drive = 16; address = suc u } → (place.drive ≢ 16) ⊎ ((place.address ≡ 0) ⊎ (length units < place.address)) → ⊥
    by u low same (inl ne) = ne (ap (λ (p : Place). p.drive) same)
    by u low same (inr (inl none)) = let a = ap (λ (p : Place). p.address) same in omega (arith, a, none)
    by u low same (inr (inr past)) = let a = ap (λ (p : Place). p.address) same in omega (arith, a, past, low)

    same : (u : ℕ) (o : Option (List ℕ)) → slice_get units u ≡ Some o → with_unit c (write place unit) 16 (suc u) ≡ c 16 (suc u)
    same u o e = write_else c (write place unit) (record { drive = 16; address = suc u }) (λ is. by u (slice_get_within units u o e) is apart)

-- a write for the place of one of the units, which is known then
pub laid_here : (units : List (Option (List ℕ))) (c : Cells) (place : Place) (unit : List ℕ) (index : ℕ) → place.drive ≡ 16 → place.address ≡ suc index → index < length units
    → AreKnownOf units c → AreKnownOf (slice_set units index (Some unit)) (with_unit c (write place unit))
laid_here units c place unit index table at low are = record {
  each = λ u x e. by u x e (same_or_not u index);
  there = λ u o e. still u o e (same_or_not u index);
}
  where
    here : place ≡ record { drive = 16; address = suc index }
    here = ap (λ d. let p : Place = record { drive = d; address = place.address } in p) table ∙ ap (λ a. let p : Place = record { drive = 16; address = a } in p) at

    old : (o : Option (List ℕ)) × (slice_get units index ≡ Some o)
    old = elim (slice_get_cases units index).1 [ inl is ↦ (is.0, is.2) | inr past ↦ (let high = past.0 in absurd (omega (arith, low, high))) ]

    written : held (with_unit c (write place unit)) place ≡ Some unit
    written = write_here c (write place unit) ∙ (ap (λ o. over o unit) (ap (λ p. held c p) here) ∙ over_there (c 16 (suc index)) unit (are.there index old.0 old.1))

    now : (u : ℕ) → u ≡ index → with_unit c (write place unit) 16 (suc u) ≡ Some unit
    now u same = ap (λ k. with_unit c (write place unit) 16 (suc k)) same ∙ (ap (λ (p : Place). held (with_unit c (write place unit)) p) (sym here) ∙ written)

    apart : (u : ℕ) → u ≢ index → with_unit c (write place unit) 16 (suc u) ≡ c 16 (suc u)
    apart u ne = write_else c (write place unit) (record { drive = 16; address = suc u }) (λ same. ne (let a = ap (λ (p : Place). p.address) same in omega (arith, a, at)))

    by : (u : ℕ) (x : List ℕ) → slice_get (slice_set units index (Some unit)) u ≡ Some (Some x) → (u ≡ index) ⊎ (u ≢ index) → with_unit c (write place unit) 16 (suc u) ≡ Some x
    by u x e (inl same) = now u same ∙ same_Some (Some unit) (Some x) (sym (get-set_same units index (Some unit) low)
        ∙ (ap (λ k. slice_get (slice_set units index (Some unit)) k) (sym same) ∙ e))
    by u x e (inr ne) = apart u ne ∙ are.each u x (sym (get-set_other units index u (Some unit) ne) ∙ e)

    still : (u : ℕ) (o : Option (List ℕ)) → slice_get (slice_set units index (Some unit)) u ≡ Some o → (u ≡ index) ⊎ (u ≢ index)
        → is_some (with_unit c (write place unit) 16 (suc u)) ≡ true
    still u o e (inl same) = ap is_some (now u same)
    still u o e (inr ne) = ap is_some (apart u ne) ∙ are.there u o (sym (get-set_other units index u (Some unit) ne) ∙ e)

-- what is last in a list with one more, or before that
at_end : {X : Type 0} (more : X) (xs : List X) (u : ℕ) (x : X) → slice_get (xs ++ more ∷ []) u ≡ Some x → (slice_get xs u ≡ Some x) ⊎ ((u ≡ length xs) × (x ≡ more))
at_end more [] zero x e = inr (refl, sym (same_Some more x e))
at_end more [] (suc u) x e = absurd (none-some x e)
at_end more (y ∷ ys) zero x e = inl e
at_end more (y ∷ ys) (suc u) x e = elim (at_end more ys u x e) [ inl old ↦ inl old | inr new ↦ inr (ap suc new.0, new.1) ]

-- one unit more, which may be known
pub units_add : (units : List (Option (List ℕ))) (c : Cells) (o : Option (List ℕ)) → IfSome o (λ unit. c 16 (suc (length units)) ≡ Some unit)
    → is_some (c 16 (suc (length units))) ≡ true → AreKnownOf units c → AreKnownOf (units ++ o ∷ []) c
units_add units c o at is are = record {
  each = λ u x e. elim (at_end o units u (Some x) e) [
    | inl old ↦ are.each u x old
    | inr new ↦ ap (λ k. c 16 (suc k)) new.0 ∙ subst (λ (q : Option (List ℕ)). IfSome q (λ unit. c 16 (suc (length units)) ≡ Some unit)) (sym new.1) at
  ];
  there = λ u p e. elim (at_end o units u p e) [ inl old ↦ are.there u p old | inr new ↦ ap (λ k. is_some (c 16 (suc k))) new.0 ∙ is ];
}

-- what was written last, also after calls that attest no more and find the same
pub last_later : (old new : Place → Type 0) (written : Cells) (was now : Image) (x : Place) → ((y : Place) → new y → old y) → now ≡ was
    → IsLastIfAttested old written was.cells x → IsLastIfAttested new written now.cells x
last_later old new written was now x less same last = record {
  there = λ here. last.there (subst (λ (i : Image). is_some (held i.cells x) ≡ true) same here);
  same = λ is unit at. last.same (less x is) unit (subst (λ (i : Image). held i.cells x ≡ Some unit) same at);
}

-- what lies there now may be what was written last
pub as_found : (attested : Place → Type 0) (now : Cells) → AreFormLastIfAttested attested now now
as_found attested now = λ u low. record { there = λ here. here; same = λ is unit at. at }

-- the first units are known
pub record AreFirst (units : List (Option (List ℕ))) (known : List (List ℕ)) : Type 0 where
  pub each : (u : ℕ) (x : List ℕ) → slice_get known u ≡ Some x → slice_get units u ≡ Some (Some x)

-- what is said where a call succeeds
pub only_ok : {T E : Type 0} (P Q : T → Type 0) (r : Result T E) → IfOk r P → ((x : T) → P x → IfOk r Q) → IfOk r Q
only_ok P Q (Ok x) p q = q x p
only_ok P Q (Err e) p q = tt

-- what the units of a table spell, the table has
pub table_has : (groups : Groups) (count : ℕ) (units : List (List ℕ)) (c : Cells) → AreUnitsOf units c → SpellsGroups groups count units → HasGroups groups count c
table_has groups count units c are spelled = record { each = λ u low. are.each u _ (spelled.each u low); last = are.each 1024 _ spelled.last }

-- and what it has, they spell
pub units_spell : (groups : Groups) (count : ℕ) (units : List (List ℕ)) (c : Cells) → length units ≡ 1025 → AreUnitsOf units c → HasGroups groups count c → SpellsGroups groups count units
units_spell groups count units c many are has = record {
  many = many;
  each = λ u low. at u (group_unit groups u) (omega (arith, low)) (has.each u low);
  last = at 1024 (count_unit count) (omega arith) has.last;
}
  where
    at : (u : ℕ) (unit : List ℕ) → u < 1025 → c 16 (suc u) ≡ Some unit → slice_get units u ≡ Some unit
    at u unit low is = elim (slice_get_cases units u).1 [
      | inl there ↦ there.2 ∙ (sym (are.each u there.0 there.2) ∙ is)
      | inr past ↦ (let high = past.0 in absurd (omega (arith, low, high, many)))
    ]

module _ {V : Type 0} (seen : V → Image) (may_leave : V → Stop → Image → Type 0) (moment : V → ℕ) (left_since : V → Stop → ℕ → Image → Type 0) where
  -- no call
  pub read_none : (a : V) → OnlyReadsVault seen may_leave moment left_since a a
  read_none a = record {
    finds = refl;
    time = λ stop. record { later = omega arith; nothing_else = λ t i le since. inl since; keeps = λ t i le past. past; ends = λ i left. left };
  }

  -- one call more
  pub read_more : (a b c : V) → OnlyReadsVault seen may_leave moment left_since a b → OnlyReadsVault seen may_leave moment left_since b c → OnlyReadsVault seen may_leave moment left_since a c
  read_more a b c one two = record {
    finds = two.finds ∙ one.finds;
    time = λ stop.
        let x = one.time stop in
        let y = two.time stop in
        let first = x.later in
        let second = y.later in
        record {
          later = omega (arith, first, second);
          nothing_else = λ t i le since. elim (y.nothing_else t i (omega (arith, le, first)) since) [ inl past ↦ x.nothing_else t i le past | inr during ↦ inr (x.ends i during) ];
          keeps = λ t i le past. y.keeps t i (omega (arith, le, first)) (x.keeps t i le past);
          ends = λ i left. x.ends i (y.ends i left);
        };
  }

  -- one call of the vault more
  pub read_call : (a b c : V) → OnlyReadsVault seen may_leave moment left_since a b → seen c ≡ seen b
      → ((stop : Stop) → Elapses (moment b) (moment c) (left_since b stop) (left_since c stop) (may_leave b stop) (may_leave c stop)) → OnlyReadsVault seen may_leave moment left_since a c
  read_call a b c one finds time = read_more a b c one (record { finds = finds; time = time })
