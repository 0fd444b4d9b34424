-- Drives that were tested lack no unit of the groups.
use Rattle.std.proofs.Common.{◌≡◌, ◌<◌, inl, ℕ, false, Option, Some, None, List, length, slice_get, refl, sym, ◌∙◌, ap, arith, if◌then◌else◌}
use Rattle.std.proofs.lemmas.Option.{none-some}
use Rattle.extent_groups.specs.declared.place.Place.{Place}
use Rattle.extent_groups.specs.Groups.{Groups}
use Rattle.extent_groups.specs.Cells.{Cells, cell, cells, held}
use Rattle.extent_groups.specs.Layout.{IsOf}
use Rattle.extent_groups.specs.Stores.{AreSound, unit_bytes}
use Rattle.extent_groups.specs.Units.{Site, IsSoundAt, site_of, unit_in}
use Rattle.extent_groups.proofs.Fading.{site_fades}
use Rattle.extent_groups.proofs.LayoutLaw.{layout_law}
use Rattle.extent_groups.proofs.Sites.{site_places}
use Rattle.flat_machine.specs.Flat.{Stored}
use Rattle.unit_store.specs.Shows.{ShowsUnits}
use Rattle.unit_store.specs.Views.{DriveView, drive_lost, drive_units}
use Rattle.rotten_units.specs.Rows.{AreRowsWhole, IsSiteSized, IsPlaceUsed, SameUsed}
use Rattle.rotten_units.proofs.Same.{there, unit_same}
use Rattle.unit_repair.specs.Mended.{AreVerified}

-- the unit of a drive that is there
pub of_view : (o : Option DriveView) (v : DriveView) (at : ℕ) → o ≡ Some v → v.lost ≡ false → cell drive_units drive_lost o at ≡ slice_get v.units at
of_view o v at e alive = ap (λ (p : Option DriveView). cell drive_units drive_lost p at) e ∙ ap (λ b. if b then None else slice_get v.units at) alive

-- a unit of a drive is as long as all of them
of_size : (n : ℕ) (o : Option DriveView) (at : ℕ) (u : List ℕ) → ((v : DriveView) → o ≡ Some v → v.lost ≡ false)
    → ((v : DriveView) → o ≡ Some v → slice_get v.units at ≡ Some u → length u ≡ n) → cell drive_units drive_lost o at ≡ Some u → length u ≡ n
of_size n None at u alive sized e = absurd (none-some u e)
of_size n (Some v) at u alive sized e = sized v refl (sym (of_view (Some v) v at refl (alive v refl)) ∙ e)

-- what lies at the places of a slot of drives that were tested
verified_now_of : {groups : Groups} {drives units : ℕ} (c : Cells) (is : AreVerified groups drives units c) (slot : ℕ) (site : Site) → site_of groups slot ≡ Some site → (x : Place) → IsOf site x
    → held c x ≡ held (cells drive_units drive_lost is.views) x
verified_now_of {groups} c is slot site at x of =
    let place = site_places drive_units groups is.views slot site is.formed is.fit at x of in
    let v = there is.views x.drive place.inside in
    is.lies x.drive x.address v.0 v.1 (place.low v.0 v.1) ∙ sym (of_view (slice_get is.views x.drive) v.0 x.address v.1 (is.alive x.drive v.0 v.1))

module _ (groups : Groups) (drives units : ℕ) (c : Cells) (is : AreVerified groups drives units c) where
  abbrev now : Cells
  now = cells drive_units drive_lost is.views

  now_sized : (x : Place) (u : List ℕ) → held now x ≡ Some u → length u ≡ unit_bytes groups
  now_sized x u e = of_size (unit_bytes groups) (slice_get is.views x.drive) x.address u (is.alive x.drive) (λ v found at. is.fit.sized x.drive v found x.address u at) e

  module _ (slot : ℕ) (site : Site) (at : site_of groups slot ≡ Some site) where
    pub verified_now : (x : Place) → IsOf site x → held c x ≡ held now x
    verified_now x of = verified_now_of c is slot site at x of

    pub verified_sized : IsSiteSized (unit_bytes groups) c site
    verified_sized x of =
        let place = site_places drive_units groups is.views slot site is.formed is.fit at x of in
        let v = there is.views x.drive place.inside in
        let u = there v.0.units x.address (place.low v.0 v.1) in
        let found : held c x ≡ Some u.0 = is.lies x.drive x.address v.0 v.1 (place.low v.0 v.1) ∙ u.1 in
        (u.0, found, now_sized x u.0 (sym (verified_now x of) ∙ found))

    pub verified_sound : IsSoundAt (unit_bytes groups) c site
    verified_sound = (site_fades (unit_bytes groups) now c site now_sized ((layout_law groups is.formed).whole slot site at) (λ x of. inl (verified_now x of)) (is.sound slot site at)).sound

  -- nothing is missing, and all slots are sound
  pub whole : AreRowsWhole groups c
  whole = record { formed = is.formed; sized = verified_sized; sound = verified_sound }

  -- a place that the groups use is one of the drives'
  pub used_inside : (x : Place) → IsPlaceUsed groups x → (x.drive < drives) × (x.address < units)
  used_inside x (slot, site, at, of) =
      let place = site_places drive_units groups is.views slot site is.formed is.fit at x of in
      let v = there is.views x.drive place.inside in (
        (let low = place.inside in let many = is.many in omega (arith, low, many)),
        (let low = place.low v.0 v.1 in let long = is.long x.drive v.0 v.1 in omega (arith, low, long)),
      )

-- drives with the same units at all places of the groups show the same units
module _ (groups : Groups) (a b : Cells) (sound : AreSound groups b) (same : SameUsed groups a b) (shown : ℕ → Option Stored) where
  slot_kept : (slot : ℕ) (o : Option Site) → site_of groups slot ≡ o → (v : List ℕ) → unit_in (unit_bytes groups) b o ≡ Some v → unit_in (unit_bytes groups) a o ≡ Some v
  slot_kept slot None at v e = absurd (none-some v e)
  slot_kept slot (Some site) at v e = unit_same (unit_bytes groups) a b site (λ x of. same x (slot, site, at, of)) ∙ e

  pub shows_same : ShowsUnits groups a shown → ShowsUnits groups b shown
  shows_same shows = record { sound = sound; shown = λ slot bytes e. shows.shown slot bytes (slot_kept slot (site_of groups slot) refl bytes e) }
