-- A way that was drafted is carried out: what its writes leave of the row, and that they are the slot's plan.
use Rattle.std.proofs.Common.{◌≡◌, ◌≢◌, ℕ, ◌⊎◌, inl, inr, Bool, true, false, Option, Some, None, List, [], ◌∷◌, length, refl, sym, ◌∙◌, ap, subst}
use Rattle.std.specs.Bool.{MatchBool}
use Rattle.std.proofs.lemmas.Option.{same_Some, none-some}
use Rattle.std.proofs.lemmas.Bool.{true≢false}
use Rattle.extent_groups.specs.declared.place.Place.{Place}
use Rattle.extent_groups.specs.Groups.{Groups}
use Rattle.extent_groups.specs.Cells.{Cells, held}
use Rattle.extent_groups.specs.Units.{InStripe, plus, held_in, row_of, unit_at, IsSoundAt, site_of}
use Rattle.extent_groups.specs.Calls.{FadesAt, if_ok, DidWrite}
use Rattle.extent_groups.specs.Layout.{IsLayout, IsDriveDisjoint}
use Rattle.extent_groups.specs.Stores.{unit_bytes, IsOwn, LeavesSites}
use Rattle.extent_groups.specs.Planned.{over, after, places_in, if_held, present, expected_parity, IsWritePlan, IsPlan, WroteByPlan}
use Rattle.extent_groups.proofs.Fading.{fades_trans, row_fades, row_sized}
use Rattle.extent_groups.proofs.RowWrites.{WritesRow, writes_faded, both_missing}
use Rattle.extent_groups.proofs.SlotWrites.{AreSizedCells, fades_leave, stripe_leaves}
use Rattle.extent_groups.proofs.Finishing.{expected_of, expected_here, expected_else, fades_more}
use Rattle.extent_groups.proofs.Listing.{refused_fades, held_some, stripe_list, stripe_parity, expected_sized}
use Rattle.parity_store.specs.declared.way.Way.{Way}
use Rattle.parity_store.specs.declared.way.Way.TheVariants.{Both, Alone, Parity, Missed}
use Rattle.parity_store.specs.Ways.{Differs, IsParityDelta, ParityWritten}
use Rattle.parity_store.specs.declared.target.Target.{Target}
use Rattle.parity_store.specs.Drafts.{IsDraft, writes_by, parity_by, IsWrittenByWay, WroteByDraft, Tried, Ends}
use Rattle.parity_store.specs.Targets.{IsHome, row_to}
use Rattle.parity_store.proofs.Stripes.{drives_differ, not_own, stays_gone, differs_row, parity_row}
use Rattle.parity_store.proofs.Planning.{for_place, planned_both, planned_alone, planned_parity}

-- what fades has the size that it had
pub faded_sizes : (n : ℕ) (c new : Cells) → ((x : Place) → FadesAt c new x) → AreSizedCells n c → AreSizedCells n new
faded_sizes n c new fades sized x u e = elim (fades x) [ inl same ↦ sized x u (sym same ∙ e) | inr gone ↦ absurd (none-some u (sym gone ∙ e)) ]

-- what is lost stays lost
fades_lost : (n : ℕ) (c new : Cells) (p : Place) → FadesAt c new p → held c p ≡ None → held new p ≡ None
fades_lost n c new p fades gone = stays_gone (held c p) (held new p) fades gone

-- a parity that was written by difference, or is lost
written_or_lost : (c new : Cells) (home parity : Place) (d q u s : List ℕ) (ok : Bool) → held c home ≡ Some d → held c parity ≡ Some q → s ≡ plus (plus q d) u → held new parity ≡ if_ok ok s
    → (held new parity ≡ None) ⊎ IsParityDelta c new home parity u
written_or_lost c new home parity d q u s true hd hq e here = inr (d, q, hd, hq, here ∙ ap (λ t. Some t) e)
written_or_lost c new home parity d q u s false hd hq e here = inl here

module _ (row : List Place) (p i : ℕ) (home parity : Place) (u s : List ℕ) (h : IsHome row p i home parity) where
  apart : home ≡ parity → ⊥
  apart e = drives_differ row p i home parity h (ap (λ (x : Place). x.drive) e)

  -- a write of the unit, whose parity was written by difference or is lost
  both_differ : (c mid new : Cells) (kept : Bool) → IsDraft (length u) c row p i home parity u s Both → DidWrite c mid home u true → DidWrite mid new parity s kept → Differs c new home parity u
  both_differ c mid new kept draft one two = record {
    here = two.elsewhere home (drives_differ row p i home parity h) ∙ one.here;
    there = written_or_lost c new home parity draft.0 draft.1 u s kept draft.2 draft.3 draft.4 two.here;
    nearby = λ x nh np. fades_trans (held c x) (held mid x) (held new x) (one.nearby x nh) (two.nearby x np);
    elsewhere = λ x dh dp. two.elsewhere x dp ∙ one.elsewhere x dh;
  }

  alone_differs : (c new : Cells) → IsDraft (length u) c row p i home parity u s Alone → DidWrite c new home u true → Differs c new home parity u
  alone_differs c new draft one = record {
    here = one.here;
    there = inl (one.elsewhere parity (λ e. drives_differ row p i home parity h (sym e)) ∙ draft.2);
    nearby = λ x nh np. one.nearby x nh;
    elsewhere = λ x dh dp. one.elsewhere x dh;
  }

  parity_written : (c new : Cells) → IsDraft (length u) c row p i home parity u s Parity → DidWrite c new parity s true → ParityWritten (length u) c new row i p u
  parity_written c new draft one = record {
    there = (draft.0, draft.3, ap (held_in new) h.parity_is ∙ one.here ∙ ap (λ t. Some t) draft.4);
    nearby = λ x never. one.nearby x (λ e. never (h.parity_is ∙ ap (λ y. Some y) (sym e)));
    elsewhere = λ x y ay dp. one.elsewhere x (λ e. dp (e ∙ ap (λ (z : Place). z.drive) (same_Some parity y (sym h.parity_is ∙ ay))));
  }

  -- the row afterwards, and all other places
  way_row : (c new : Cells) (way : Way) → AreSizedCells (length u) c → IsDraft (length u) c row p i home parity u s way → IsWrittenByWay c new home parity u s way true
      → WritesRow (length u) (length row) (row_of c row) (row_of new row) i p u
  way_row c new Both sized draft did = differs_row c new row p i home parity u h (both_differ c did.0 new did.1 draft did.2 did.3)
  way_row c new Alone sized draft did = differs_row c new row p i home parity u h (alone_differs c new draft did)
  way_row c new Parity sized draft did = parity_row c c new row p i home parity u h sized (λ x. inl refl) draft.1 (parity_written c new draft did)
  way_row c new Missed sized draft did = absurd (true≢false did.0)

  way_nearby : (c new : Cells) (way : Way) → IsWrittenByWay c new home parity u s way true → (x : Place) → (IsOwn (InStripe row p i) x → ⊥) → FadesAt c new x
  way_nearby c new Both did x never = let both = not_own row p i home parity x h never in fades_trans (held c x) (held did.0 x) (held new x) (did.2.nearby x both.0) (did.3.nearby x both.1)
  way_nearby c new Alone did x never = did.nearby x (not_own row p i home parity x h never).0
  way_nearby c new Parity did x never = did.nearby x (not_own row p i home parity x h never).1
  way_nearby c new Missed did x never = absurd (true≢false did.0)

  -- of the drives before the reads: the unit is the effective one, and all sites are as a write leaves them
  way_unit : (c mid new : Cells) (way : Way) → AreSizedCells (length u) c → ((x : Place) → FadesAt c mid x)
      → IsDraft (length u) mid row p i home parity u s way → IsWrittenByWay mid new home parity u s way true → unit_at (length u) new (InStripe row p i) ≡ Some u
  way_unit c mid new way sized fades draft did = (way_row mid new way (faded_sizes (length u) c mid fades sized) draft did).unit

  way_leaves : (c mid new : Cells) (way : Way) → AreSizedCells (length u) c → ((x : Place) → FadesAt c mid x)
      → IsDraft (length u) mid row p i home parity u s way → IsWrittenByWay mid new home parity u s way true → IsSoundAt (length u) c (InStripe row p i)
      → LeavesSites (length u) c new (InStripe row p i)
  way_leaves c mid new way sized fades draft did sound =
      stripe_leaves (length u) c new row p i u sized
      (writes_faded (length u) (length row) (row_of c row) (row_of mid row) (row_of new row) i p u (row_sized (length u) c row sized) (row_fades c mid row (λ k x at. fades x))
      (way_row mid new way (faded_sizes (length u) c mid fades sized) draft did)) sound
      (λ x never. fades_trans (held c x) (held mid x) (held new x) (fades x) (way_nearby mid new way did x never))

  -- the way's list was carried out
  way_written : (c new : Cells) (way : Way) → IsWrittenByWay c new home parity u s way true → (x : Place) → FadesAt (after c (writes_by home parity u s way)) new x
  way_written c new Both did = fades_more c did.0 new (for_place home u ∷ []) (for_place parity s) did.1 (fades_more c c did.0 [] (for_place home u) true (λ x. inl refl) did.2) did.3
  way_written c new Alone did = fades_more c c new [] (for_place home u) true (λ x. inl refl) did
  way_written c new Parity did = fades_more c c new [] (for_place parity s) true (λ x. inl refl) did
  way_written c new Missed did = absurd (true≢false did.0)

  way_found : (c new : Cells) (way : Way) → IsWrittenByWay c new home parity u s way true → way ≢ Missed
  way_found c new way did e = true≢false (subst (λ w. IsWrittenByWay c new home parity u s w true) e did).0

  way_drafted : (c mid new : Cells) (way : Way) → length s ≡ length u → ((x : Place) → FadesAt c mid x)
      → IsDraft (length u) mid row p i home parity u s way → IsWrittenByWay mid new home parity u s way true → WroteByDraft (length u) c new row p i u
  way_drafted c mid new way long fades draft did = record {
    home = home;
    parity = parity;
    home_is = h.home_is;
    parity_is = h.parity_is;
    mid = mid;
    sum = s;
    way = way;
    sized = long;
    found = way_found mid new way did;
    read = fades;
    draft = draft;
    written = way_written mid new way did;
  }

  -- a way whose first write was refused: nothing was written
  way_fades : (c new : Cells) (way : Way) → IsWrittenByWay c new home parity u s way false → (x : Place) → FadesAt c new x
  way_fades c new Both did = refused_fades c new home u did
  way_fades c new Alone did = refused_fades c new home u did
  way_fades c new Parity did = refused_fades c new parity s did
  way_fades c new Missed did = λ x. inl (ap (λ (d : Cells). held d x) did.1)

  both_lost : (new : Cells) → held new home ≡ None → held new parity ≡ None → unit_at (length u) new (InStripe row p i) ≡ None
  both_lost new lost also =
      both_missing (length u) (length row) i p (row_of new row) h.whole.1 (λ e. h.whole.2 (sym e)) (ap (held_in new) h.home_is ∙ lost) (ap (held_in new) h.parity_is ∙ also)

  -- and the slot has no effective unit, unless the write was by difference
  way_none : (c new : Cells) (way : Way) → way ≢ Both → IsDraft (length u) c row p i home parity u s way → IsWrittenByWay c new home parity u s way false
      → unit_at (length u) new (InStripe row p i) ≡ None
  way_none c new Both ne draft did = absurd (ne refl)
  way_none c new Alone ne draft did = both_lost new did.here (did.elsewhere parity (λ e. drives_differ row p i home parity h (sym e)) ∙ draft.2)
  way_none c new Parity ne draft did = both_lost new (did.elsewhere home (drives_differ row p i home parity h) ∙ draft.1) did.here
  way_none c new Missed ne draft did = ap (λ (d : Cells). unit_at (length u) d (InStripe row p i)) did.1 ∙ draft

  -- a draft without the unit's drive isn't by difference
  lost_not_both : (c : Cells) (way : Way) → held c home ≡ None → IsDraft (length u) c row p i home parity u s way → way ≢ Both
  lost_not_both c way lost draft e =
      let both = subst (λ w. IsDraft (length u) c row p i home parity u s w) e draft in none-some both.0 (sym lost ∙ both.2)

  -- the list is the slot's plan
  module _ (groups : Groups) (c : Cells) (slot : ℕ) (layout : IsLayout groups) (at : site_of groups slot ≡ Some (InStripe row p i))
      (long : length u ≡ unit_bytes groups) (same : length s ≡ unit_bytes groups) (sized : AreSizedCells (unit_bytes groups) c) where
    abbrev expected : Place → List ℕ
    expected = expected_of home u s

    list_is : (a b : Option (List ℕ)) → held c home ≡ a → held c parity ≡ b → present c expected (places_in (site_of groups slot)) ≡ if_held a (for_place home u) (if_held b (for_place parity s) [])
    list_is a b ha hb =
        stripe_list groups c slot row p i home parity expected u s a b at h.home_is h.parity_is (expected_here home u s) (expected_else home parity u s apart) ha hb

    listed : (way : Way) → way ≢ Missed → IsDraft (unit_bytes groups) c row p i home parity u s way → writes_by home parity u s way ≡ present c expected (places_in (site_of groups slot))
    listed Both found draft = sym (list_is _ _ draft.2 draft.3)
    listed Alone found draft = sym (list_is _ _ draft.1 draft.2)
    listed Parity found draft = sym (list_is _ _ draft.1 refl ∙ held_some (held c parity) (for_place parity s) [] draft.2)
    listed Missed found draft = absurd (found refl)

    planned : (way : Way) → way ≢ Missed → IsDraft (unit_bytes groups) c row p i home parity u s way → IsWritePlan groups c slot u expected (writes_by home parity u s way)
    planned Both found draft = planned_both groups c slot row p i home parity u s layout at h long sized draft.0 draft.1 draft.2 draft.3 draft.4
    planned Alone found draft = planned_alone groups c slot row p i home parity u s layout at h long sized draft.0 draft.1 draft.2
    planned Parity found draft = let q = had (held c parity) refl draft.2 in planned_parity groups c slot row p i home parity u s layout at h long sized q.0 draft.0 draft.1 q.1 draft.3 draft.4
      where
        had : (o : Option (List ℕ)) → held c parity ≡ o → (held c parity ≡ None → ⊥) → (q : List ℕ) × (held c parity ≡ Some q)
        had None e some = absurd (some e)
        had (Some q) e some = (q, e)
    planned Missed found draft = absurd (found refl)

    pub way_plan : (way : Way) → way ≢ Missed → IsDraft (unit_bytes groups) c row p i home parity u s way → IsPlan groups c slot u expected (writes_by home parity u s way)
    way_plan way found draft = record {
      sized = λ x. expected_sized home x u s (unit_bytes groups) long same;
      planned = planned way found draft;
      listed = listed way found draft;
    }

    -- with the parity's unit
    parity_is : (b : Option (List ℕ)) → held c parity ≡ b → expected_parity c expected (site_of groups slot) ≡ over b s
    parity_is b hb = stripe_parity groups c slot row p i parity expected s b at h.parity_is (expected_else home parity u s apart) hb

    pub way_parity : (way : Way) → way ≢ Missed → IsDraft (unit_bytes groups) c row p i home parity u s way → parity_by s way ≡ expected_parity c expected (site_of groups slot)
    way_parity Both found draft = sym (parity_is _ draft.3)
    way_parity Alone found draft = sym (parity_is _ draft.2)
    way_parity Parity found draft = sym (parity_is _ refl ∙ some_over (held c parity) draft.2)
      where
        some_over : (o : Option (List ℕ)) → (o ≡ None → ⊥) → over o s ≡ Some s
        some_over None some = absurd (some refl)
        some_over (Some q) some = refl
    way_parity Missed found draft = absurd (found refl)

module _ (groups : Groups) (target : Target) (u : List ℕ) (h : IsHome (row_to groups target) target.at.parity target.at.member target.home target.parity) where
  abbrev row : List Place
  row = row_to groups target

  abbrev p : ℕ
  p = target.at.parity

  abbrev i : ℕ
  i = target.at.member

  -- a write that was tried after losses, but one by difference whose unit's drive was lost in its write
  tried_end : (c was new : Cells) (way : Way) (ok : Bool) → AreSizedCells (length u) c → ((x : Place) → FadesAt c was x) → Tried groups was new target u way ok → (ok ≡ false → way ≢ Both)
      → Ends groups c new target u ok
  tried_end c was new way true sized fades t ne =
      let all : (x : Place) → FadesAt c t.mid x = λ x. fades_trans (held c x) (held was x) (held t.mid x) (fades x) (t.read x) in
      record {
        unit_is = way_unit row p i target.home target.parity u t.sum h c t.mid new way sized all t.draft t.carried;
        leaves = way_leaves row p i target.home target.parity u t.sum h c t.mid new way sized all t.draft t.carried;
        drafted = way_drafted row p i target.home target.parity u t.sum h c t.mid new way t.sized all t.draft t.carried;
      }
  tried_end c was new way false sized fades t ne =
      let all : (x : Place) → FadesAt c new x =
      λ x. fades_trans (held c x) (held t.mid x) (held new x) (fades_trans (held c x) (held was x) (held t.mid x) (fades x) (t.read x))
      (way_fades row p i target.home target.parity u t.sum h t.mid new way t.carried x) in
      record {
        unit_is = way_none row p i target.home target.parity u t.sum h t.mid new way (ne refl) t.draft t.carried;
        leaves = λ sound. fades_leave (length u) c new (InStripe row p i) sized h.whole sound all;
        drafted = all;
      }

  pub once_end : (c new : Cells) (way : Way) (ok : Bool) → AreSizedCells (length u) c → Tried groups c new target u way ok → (ok ≡ false → way ≢ Both) → Ends groups c new target u ok
  once_end c new way ok sized t ne = tried_end c c new way ok sized (λ x. inl refl) t ne

  -- that one is tried again without the drive, and nothing was written before
  pub again_end : (c mid new : Cells) (way : Way) (ok : Bool) → AreSizedCells (length u) c → Tried groups c mid target u Both false → Tried groups mid new target u way ok
      → Ends groups c new target u ok
  again_end c mid new way ok sized one two =
      tried_end c mid new way ok sized
      (λ x. fades_trans (held c x) (held one.mid x) (held mid x) (one.read x) (way_fades row p i target.home target.parity u one.sum h one.mid mid Both one.carried x)) two
      (λ e. lost_not_both row p i target.home target.parity u two.sum h two.mid way (fades_lost (length u) mid two.mid target.home (two.read target.home) one.carried.here) two.draft)

pub on_true : (A B : Type 0) (b : Bool) → MatchBool b A B → b ≡ true → A
on_true A B true a e = a
on_true A B false b e = absurd (true≢false (sym e))

-- a row that was written by a draft: its slot was written by a plan
pub plan_drafted : (groups : Groups) (c new : Cells) (slot : ℕ) (row : List Place) (p i : ℕ) (u : List ℕ) → IsLayout groups → site_of groups slot ≡ Some (InStripe row p i)
    → length u ≡ unit_bytes groups → AreSizedCells (unit_bytes groups) c → IsDriveDisjoint (InStripe row p i) → WroteByDraft (length u) c new row p i u → WroteByPlan groups c new slot u
plan_drafted groups c new slot row p i u layout at long sized whole d =
    let h : IsHome row p i d.home d.parity = record { whole = whole; home_is = d.home_is; parity_is = d.parity_is } in record {
      mid = d.mid;
      expected = expected_of d.home u d.sum;
      writes = writes_by d.home d.parity u d.sum d.way;
      read = d.read;
      plan = way_plan row p i d.home d.parity u d.sum h groups d.mid slot layout at long (d.sized ∙ long) (faded_sizes (unit_bytes groups) c d.mid d.read sized) d.way d.found
          (subst (λ n. IsDraft n d.mid row p i d.home d.parity u d.sum d.way) long d.draft);
      written = d.written;
    }
