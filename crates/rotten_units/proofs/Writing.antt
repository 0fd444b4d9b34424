-- Writes of noted places, one after the other.
use Rattle.std.proofs.Common.{◌≡◌, ◌≢◌, ℕ, inl, inr, true, Option, Some, None, is_some, List, Result, Ok, Err, refl, sym, ◌∙◌, ap, subst}
use Rattle.std.proofs.lemmas.Bool.{true≢false}
use Rattle.std.proofs.lemmas.Option.{none-some}
use Rattle.extent_groups.specs.declared.place.Place.{Place}
use Rattle.extent_groups.specs.Calls.{Fades, FadesAt}
use Rattle.extent_groups.specs.Cells.{Cells, held}
use Rattle.extent_groups.specs.Planned.{over, with_unit}
use Rattle.extent_groups.proofs.Finishing.{place_or_not, write_else, write_here}
use Rattle.vault.specs.Images.{Alike, Image, with_write}
use Rattle.vault.specs.Moments.{AttestsNoOther, Elapses, LeavesOnly, Torn, torn_at}
use Rattle.vault.specs.declared.store.Stop.{Stop}
use Rattle.vault.proofs.Runs.{both_runs, goes_on, started}
use Rattle.rotten_units.specs.Faults.{UnlessVault}
use Rattle.rotten_units.specs.Loaded.{OnlyRead}
use Rattle.rotten_units.specs.Written.{DiffersAt, IsKeptOrFrom, LeavesAt, WroteAt, WroteFrom}
use Rattle.rotten_units.specs.declared.fault.MendFault.{MendFault}

module _ (places : Place → Type 0) where
  pub differs_not : (i : Image) → DiffersAt places i i
  differs_not i = record { there = λ x. refl; elsewhere = λ x out. refl; journal = refl }

  pub differs_more : (a b c : Image) → DiffersAt places a b → DiffersAt places b c → DiffersAt places a c
  differs_more a b c one two = record {
    there = λ x. two.there x ∙ one.there x;
    elsewhere = λ x out. two.elsewhere x out ∙ one.elsewhere x out;
    journal = two.journal ∙ one.journal;
  }

  -- one write at one of the places
  torn_differs : (place : Place) (a b : Image) → places place → Torn place a b → DiffersAt places a b
  torn_differs place a b of torn = record {
    there = torn.there;
    elsewhere = λ x out. torn.elsewhere x (λ e. out (subst places (sym e) of));
    journal = torn.journal;
  }

  module _ {V : Type 0} (seen : V → Image) (may_leave : V → Stop → Image → Type 0) (moment : V → ℕ) (left_since : V → Stop → ℕ → Image → Type 0) where
    -- no write
    pub wrote_none : (v : V) → ((stop : Stop) (i : Image) → left_since v stop (moment v) i → may_leave v stop i) → WroteAt seen may_leave moment left_since places v v
    wrote_none v only = record {
      finds = differs_not (seen v);
      leaves = λ leaves. leaves;
      moments = λ leaves stop. started moment left_since stop v (DiffersAt places (seen v)) (λ i left. leaves stop i (only stop i left));
    }

    -- one write alone
    pub wrote_one : (old new : V) (place : Place) → places place → ((stop : Stop) (i : Image) → left_since old stop (moment old) i → may_leave old stop i) → Torn place (seen old) (seen new)
        → ((stop : Stop) → Elapses (moment old) (moment new) (left_since old stop) (left_since new stop) (torn_at place (may_leave old stop)) (may_leave new stop))
        → WroteAt seen may_leave moment left_since places old new
    wrote_one old new place of only torn time = record {
      finds = torn_differs place (seen old) (seen new) of torn;
      leaves = λ leaves stop i now. during leaves stop i ((time stop).ends i now);
      moments = λ leaves stop. goes_on moment left_since stop old old new (DiffersAt places (seen old)) (torn_at place (may_leave old stop)) (may_leave new stop)
          (started moment left_since stop old (DiffersAt places (seen old)) (λ i left. leaves stop i (only stop i left))) (time stop) (λ i from. during leaves stop i from);
    }
      where
        during : LeavesAt may_leave places (seen old) old → (stop : Stop) (i : Image) → torn_at place (may_leave old stop) i → DiffersAt places (seen old) i
        during leaves stop i from = differs_more (seen old) from.0 i (leaves stop from.0 from.1) (torn_differs place from.0 i of from.2)

    -- what a stop leaves differs from what calls find now as from what they found before
    leaves_now : (old mid v : V) → DiffersAt places (seen old) (seen mid) → LeavesAt may_leave places (seen old) v → LeavesAt may_leave places (seen mid) v
    leaves_now old mid v finds leaves stop i now = let left = leaves stop i now in record {
      there = λ x. left.there x ∙ sym (finds.there x);
      elsewhere = λ x out. left.elsewhere x out ∙ sym (finds.elsewhere x out);
      journal = left.journal ∙ sym finds.journal;
    }

    -- one run of writes after another
    pub wrote_both : (old mid new : V) → WroteAt seen may_leave moment left_since places old mid → WroteAt seen may_leave moment left_since places mid new
        → WroteAt seen may_leave moment left_since places old new
    wrote_both old mid new one two = record {
      finds = differs_more (seen old) (seen mid) (seen new) one.finds two.finds;
      leaves = λ leaves stop i now. differs_more (seen old) (seen mid) i one.finds (two.leaves (leaves_now old mid mid one.finds (one.leaves leaves)) stop i now);
      moments = λ leaves stop.
          both_runs moment left_since stop old mid new (DiffersAt places (seen old)) (DiffersAt places (seen mid)) (DiffersAt places (seen old))
          (one.moments leaves stop) (two.moments (leaves_now old mid mid one.finds (one.leaves leaves)) stop) (λ i p. p) (λ i q. differs_more (seen old) (seen mid) i one.finds q);
    }

    -- calls that only read write nowhere
    pub wrote_read : (old new : V) → ((stop : Stop) (i : Image) → left_since old stop (moment old) i → may_leave old stop i) → OnlyRead seen may_leave moment left_since old new
        → WroteAt seen may_leave moment left_since places old new
    wrote_read old new only read = record {
      finds = subst (λ (s : Image). DiffersAt places (seen old) s) (sym read.finds) (differs_not (seen old));
      leaves = λ leaves stop i now. leaves stop i ((read.time stop).ends i now);
      moments = λ leaves stop. goes_on moment left_since stop old old new (DiffersAt places (seen old)) (may_leave old stop) (may_leave new stop)
          (started moment left_since stop old (DiffersAt places (seen old)) (λ i left. leaves stop i (only stop i left))) (read.time stop) (λ i now. leaves stop i now);
    }

-- what is written at a place where a unit is
over_there : (o : Option (List ℕ)) (u : List ℕ) → is_some (over o u) ≡ true → over o u ≡ Some u
over_there None u e = absurd (true≢false (sym e))
over_there (Some v) u e = refl

-- what drives in memory have that calls left of them, they had before
pub was_there : (units was : Option (List ℕ)) (u : List ℕ) → Fades was units → units ≡ Some u → was ≡ Some u
was_there units was u (inl same) is = sym same ∙ is
was_there units was u (inr none) is = absurd (none-some u (sym none ∙ is))

-- after any fault, if no call of the vault is needed for it
pub unless_of : {T : Type 0} (P : Type 0) (r : Result T MendFault) → P → UnlessVault r P
unless_of P (Ok x) p = p
unless_of P (Err fault) p = λ other. p

module _ {V : Type 0} (seen : V → Image) (attested : V → Place → Type 0) (places : Place → Type 0) where
  -- no write, and calls that only read
  pub from_none : (units : Cells) (v : V) → WroteFrom seen attested places units v v
  from_none units v x a = inl (a, refl)

  pub from_read : (units : Cells) (old new : V) → seen new ≡ seen old → ((x : Place) → attested new x → attested old x) → WroteFrom seen attested places units old new
  from_read units old new same no_more x a = inl (no_more x a, ap (λ (s : Image). held s.cells x) same)

  -- one write alone
  pub from_one : (units : Cells) (old new : V) (place : Place) (unit : List ℕ) → places place → held units place ≡ Some unit → AttestsNoOther attested place old new
      → Alike (seen new) (with_write (seen old) place unit) → WroteFrom seen attested places units old new
  from_one units old new place unit of is no_other alike x a = elim (place_or_not x place) [
    | inl e ↦ inr (subst places (sym e) of, (unit, ap (held units) e ∙ is, λ some. here x e some))
    | inr ne ↦ inl (no_other x ne a, alike.cells x ∙ write_else (seen old).cells (record { place = place; unit = unit }) x (λ e. ne (sym e)))
  ]
    where
      written : (x : Place) → x ≡ place → held (seen new).cells x ≡ over (held (seen old).cells place) unit
      written x e =
          alike.cells x ∙ ap (held (with_unit (seen old).cells (record { place = place; unit = unit }))) e
          ∙ write_here (seen old).cells (record { place = place; unit = unit })

      here : (x : Place) → x ≡ place → is_some (held (seen new).cells x) ≡ true → held (seen new).cells x ≡ Some unit
      here x e some = written x e ∙ over_there (held (seen old).cells place) unit (ap (λ o. is_some o) (sym (written x e)) ∙ some)

  -- one run of writes after another
  from_two : (units was mid now : Cells) (old middle : Place → Type 0) (x : Place) → (middle x → IsKeptOrFrom old places units was mid x) → IsKeptOrFrom middle places units mid now x
      → IsKeptOrFrom old places units was now x
  from_two units was mid now old middle x one (inr from) = inr from
  from_two units was mid now old middle x one (inl (a, same)) = elim (one a) [
    | inl kept ↦ inl (kept.0, same ∙ kept.1)
    | inr from ↦ inr (from.0, (from.1.0, from.1.1, λ some. same ∙ from.1.2 (ap (λ o. is_some o) (sym same) ∙ some)))
  ]

  pub from_both : (units : Cells) (old mid new : V) → WroteFrom seen attested places units old mid → WroteFrom seen attested places units mid new → WroteFrom seen attested places units old new
  from_both units old mid new one two x a = from_two units (seen old).cells (seen mid).cells (seen new).cells (attested old) (attested mid) x (one x) (two x a)

  -- with units that drives in memory have after calls, they were written with those of before
  pub from_later : (units was : Cells) (old new : V) → ((x : Place) → FadesAt was units x) → WroteFrom seen attested places units old new → WroteFrom seen attested places was old new
  from_later units was old new fades wrote x a = elim (wrote x a) [
    | inl kept ↦ inl kept
    | inr from ↦ inr (from.0, (from.1.0, was_there (held units x) (held was x) from.1.0 (fades x) from.1.1, from.1.2))
  ]
