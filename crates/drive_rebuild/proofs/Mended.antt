-- An array whose rotten units were mended is opened with what it showed.
use Rattle.std.proofs.Common.{◌≡◌, ◌<◌, ◌≤◌, inl, inr, ℕ, suc, Bool, true, false, Some, List, [], length, slice_get, refl, sym, ◌∙◌, ap, subst, arith}
use Rattle.std.specs.Prelude.{◌==◌, not}
use Rattle.std.proofs.lemmas.Bool.{true≢false}
use Rattle.std.proofs.lemmas.Option.{same_Some, slice_get_cases, slice_get_within}
use Rattle.extent_groups.specs.declared.place.Place.{Place}
use Rattle.extent_groups.specs.Groups.{Groups}
use Rattle.extent_groups.specs.Cells.{Cells, cells, held}
use Rattle.unit_store.specs.Shows.{ShowsUnits}
use Rattle.unit_store.specs.Views.{DriveView, drive_cells, drive_lost, drive_units}
use Rattle.tiered_array.specs.Views.{TiersView}
use Rattle.vault.specs.Images.{Image, flat, is_lost, recovered}
use Rattle.vault.specs.Moments.{AreLogged}
use Rattle.vault.specs.declared.store.Stop.{Stop}
use Rattle.vault.proofs.Writes.{differ_not}
use Rattle.journaled_store.specs.Left.{IsLeftOf, IsLostIn}
use Rattle.journaled_store.specs.Outlasting.{parts_of}
use Rattle.journaled_store.specs.Steps.{loss_mark}
use Rattle.array_recovery.specs.Found.{is_marked}
use Rattle.array_recovery.specs.Reopened.{EndsAt}
use Rattle.array_recovery.proofs.Marking.{index_is}
use Rattle.array_recovery.proofs.Reopening.{bool_cases}
use Rattle.rotten_units.specs.Rows.{IsPlaceUsed, SameUsed}
use Rattle.rotten_units.specs.Written.{DiffersAt}
use Rattle.unit_repair.specs.Mended.{AreVerified, IsAtRest, IsMended, MayBeMended}
use Rattle.unit_repair.proofs.Whole.{shows_same, used_inside, verified_now}
use Rattle.drive_rebuild.proofs.Rebuilding.{mark_says}
use Rattle.drive_rebuild.proofs.Restated.{KeepsShown, ShowToo, with_drives}
use Rattle.drive_rebuild.proofs.Shown.{of_view, there}
use Rattle.drive_rebuild.proofs.Underway.{logged_of, recovered_empty}

module _ {X : Type 0} (shows : TiersView → X → Type 0) (keeps : KeepsShown shows) (what : X) (groups : Groups) (drives units : ℕ) (written now : Cells)
    (left : IsLeftOf shows what groups drives [] written) (free : (d : ℕ) → d < drives → is_marked left.kept.marks d ≡ false) (was : AreVerified groups drives units written)
    (is : AreVerified groups drives units now) (same : SameUsed groups now written) (units_of : (at : ℕ) → now 16 at ≡ written 16 at) (ends : EndsAt [] drives units now) where
  abbrev olds : List DriveView
  olds = (parts_of left.tiers).drives

  below : (d : ℕ) (v : DriveView) → slice_get olds d ≡ Some v → d < drives
  below d v e = let low = slice_get_within olds d v e in let many = left.many in omega (arith, low, many)

  -- no drive was lost
  alive : (d : ℕ) (v : DriveView) → slice_get olds d ≡ Some v → v.lost ≡ false
  alive d v e =
      sym (mark_says v.lost) ∙ sym (ap (λ m. not (m == 0)) (index_is left.kept.marks d (loss_mark v.lost) (left.kept.reported.each d v e))) ∙ free d (below d v e)

  sure : (d : ℕ) (v : DriveView) → slice_get olds d ≡ Some v → is_lost left.lost d ≡ false
  sure d v e = elim (bool_cases (is_lost left.lost d)) [
    | inr out ↦ out
    | inl one ↦ (elim (left.excused d (below d v e) one) [
      | inl away ↦ absurd (true≢false (sym away))
      | inr gone ↦ absurd (true≢false (sym gone.2 ∙ ap (λ (w : DriveView). w.lost) (same_Some _ _ (sym gone.1 ∙ e)) ∙ alive d v e))
    ])
  ]

  lies : (x : Place) → x.drive < drives → held (drive_cells (parts_of left.tiers)) x ≡ held written x
  lies x low =
      let v = there olds x.drive (let many = left.many in omega (arith, low, many)) in
      of_view (slice_get olds x.drive) v.0 x.address v.1 (alive x.drive v.0 v.1) ∙ sym (left.kept.has.each x.drive x.address v.0 v.1 (sure x.drive v.0 v.1))

  used : SameUsed groups (drive_cells (parts_of left.tiers)) (cells drive_units drive_lost is.views)
  used x of = lies x (used_inside groups drives units written was x of).0 ∙ sym (same x of) ∙ verified_now groups drives units now is of.0 of.1 of.2 x of.3

  show : ShowToo left.tiers is.views
  show T matches =
      subst (λ (g : Groups). ShowsUnits g (cells drive_units drive_lost is.views) T.flat.units) (sym left.groups_are)
      (shows_same groups (drive_cells (parts_of left.tiers)) (cells drive_units drive_lost is.views) is.sound used T.flat.units
      (subst (λ (g : Groups). ShowsUnits g (drive_cells (parts_of left.tiers)) T.flat.units) left.groups_are matches.world.array.units))

  inside : (d : ℕ) (v : DriveView) → slice_get is.views d ≡ Some v → d < drives
  inside d v e = let low = slice_get_within is.views d v e in let many = is.many in omega (arith, low, many)

  all_lies : (d a : ℕ) (v : DriveView) → slice_get is.views d ≡ Some v → now d a ≡ slice_get v.units a
  all_lies d a v e = elim (slice_get_cases v.units a).1 [
    | inl some ↦ is.lies d a v e some.1
    | inr none ↦ (let high = none.0 in let long = is.long d v e in ends d a (inside d v e) refl (omega (arith, high, long)) ∙ sym none.1)
  ]

  marked : (d : ℕ) (v : DriveView) → slice_get is.views d ≡ Some v → slice_get left.kept.marks d ≡ Some (loss_mark v.lost)
  marked d v e =
      let old = there olds d (let low = inside d v e in let many = left.many in omega (arith, low, many)) in
      left.kept.reported.each d old.0 old.1 ∙ ap (λ b. Some (loss_mark b)) (alive d old.0 old.1 ∙ sym (is.alive d v e))

  pub left_mended : IsLeftOf shows what groups drives [] now
  left_mended = record {
    tiers = with_drives left.tiers is.views;
    shown = keeps left.tiers is.views what (is.many ∙ sym left.many) show left.shown;
    groups_are = left.groups_are;
    many = is.many;
    table = record { each = λ u low. units_of (suc u) ∙ left.table.each u low; last = units_of 1025 ∙ left.table.last };
    one = λ d e a b. absurd (true≢false (sym a.2 ∙ is.alive d a.0 a.1));
    lost = [];
    kept = record {
      has = record { each = λ d a v e not. all_lies d a v e };
      marks = left.kept.marks;
      noted = units_of 0 ∙ left.kept.noted;
      reported = record { each = marked };
    };
    excused = λ d low one. absurd (true≢false (sym one));
  }

module _ {V : Type 0} (seen : V → Image) (may_leave : V → Stop → Image → Type 0) (moment : V → ℕ) (left_since : V → Stop → ℕ → Image → Type 0) where
  -- a vault at rest leaves all batches of its journal: it has none
  pub rest_logged : (lost : List Bool) (vault : V) → IsAtRest seen may_leave vault → AreLogged seen may_leave lost vault
  rest_logged lost vault rest = logged_of seen may_leave moment left_since lost vault (λ stop i now. let like = rest.leaves stop i now in record {
    cells = differ_not lost (flat (seen vault).journal) (seen vault).cells i.cells (λ x on. like.cells x);
    journal = like.journal;
  })

  pub mended_left : {X : Type 0} (shows : TiersView → X → Type 0) (keeps : KeepsShown shows) (attested : V → Place → Type 0) (old vault : V) (what : X) (groups : Groups) (drives units : ℕ) (written : Cells)
      (left : IsLeftOf shows what groups drives [] written) → ((d : ℕ) → d < drives → is_marked left.kept.marks d ≡ false) → AreVerified groups drives units written
      → IsMended seen may_leave attested groups drives units written vault → DiffersAt (MayBeMended (attested old) drives units) (seen old) (seen vault)
      → ((at : ℕ) → Image.cells (seen old) 16 at ≡ written 16 at) → EndsAt [] drives units (Image.cells (seen old)) → IsLeftOf shows what groups drives [] (recovered (seen vault))
  mended_left shows keeps attested old vault what groups drives units written left free was is differs table ends =
      subst (λ (c : Cells). IsLeftOf shows what groups drives [] c) (sym (recovered_empty (seen vault) is.rest.empty))
      (left_mended shows keeps what groups drives units written (seen vault).cells left free was is.verified is.same
      (λ at. differs.elsewhere (record { drive = 16; address = at }) (λ may. let low = may.0 in let many = was.many in let few = was.few in omega (arith, low, many, few)) ∙ table at)
      (λ d at low not past.
      differs.elsewhere (record { drive = d; address = at }) (λ may. let inside = may.1 in omega (arith, inside, past)) ∙ ends d at low not past))
