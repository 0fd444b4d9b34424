-- An array whose lost drive has units again shows what it showed.
use Rattle.std.proofs.Common.{◌≡◌, ◌≢◌, ◌<◌, inl, inr, ℕ, false, Option, Some, None, List, length, slice_get, refl, sym, ◌∙◌, ap, arith, get_or, if◌then◌else◌}
use Rattle.std.specs.Prelude.{replicate}
use Rattle.std.proofs.lemmas.Option.{none-some, slice_get-get_or, slice_get_cases}
use Rattle.extent_groups.specs.declared.place.Place.{Place}
use Rattle.extent_groups.specs.Groups.{Groups, AreGroups}
use Rattle.extent_groups.specs.Cells.{Cells, cell, cells, held}
use Rattle.extent_groups.specs.Calls.{FadesAt, IsPlace}
use Rattle.extent_groups.specs.Layout.{IsOf, IsDriveDisjoint}
use Rattle.extent_groups.specs.Stores.{AreDrives, AreSound, unit_bytes}
use Rattle.extent_groups.specs.Units.{Site, Pair, InStripe, held_in, others, put, row_of, site_of, unit_at, unit_in}
use Rattle.extent_groups.proofs.Fading.{site_fades}
use Rattle.extent_groups.proofs.LayoutLaw.{layout_law}
use Rattle.extent_groups.proofs.Missing.{neither, total_none}
use Rattle.extent_groups.proofs.Places.{same_or_not}
use Rattle.extent_groups.proofs.Sites.{site_places}
use Rattle.extent_groups.proofs.Totals.{put_other, put_same}
use Rattle.flat_machine.specs.Flat.{Stored}
use Rattle.unit_store.specs.Shows.{ShowsUnits}
use Rattle.unit_store.specs.Views.{DriveView, drive_lost, drive_units}

-- the unit of a drive that is there
pub of_view : (o : Option DriveView) (v : DriveView) (at : ℕ) → o ≡ Some v → v.lost ≡ false → cell drive_units drive_lost o at ≡ slice_get v.units at
of_view o v at e alive = ap (λ (p : Option DriveView). cell drive_units drive_lost p at) e ∙ ap (λ b. if b then None else slice_get v.units at) alive

-- a unit of a drive is as long as all of them
of_size : (n : ℕ) (o : Option DriveView) (at : ℕ) (u : List ℕ) → ((v : DriveView) → o ≡ Some v → v.lost ≡ false)
    → ((v : DriveView) → o ≡ Some v → slice_get v.units at ≡ Some u → length u ≡ n) → cell drive_units drive_lost o at ≡ Some u → length u ≡ n
of_size n None at u alive sized e = absurd (none-some u e)
of_size n (Some v) at u alive sized e = sized v refl (sym (of_view (Some v) v at refl (alive v refl)) ∙ e)

-- an element below the length
pub there : {A : Type 0} (xs : List A) (i : ℕ) → i < length xs → (x : A) × (slice_get xs i ≡ Some x)
there xs i low = elim (slice_get_cases xs i).1 [ inl is ↦ (is.0, is.2) | inr past ↦ (let high = past.0 in absurd (omega (arith, low, high))) ]

there_is : (o : Option (List ℕ)) → (o ≡ None → ⊥) → (v : List ℕ) × (o ≡ Some v)
there_is None h = absurd (h refl)
there_is (Some v) h = (v, refl)

-- Drives that are all there, and units of which one drive's are none, and the others theirs.
module _ (g : Groups) (formed : AreGroups g) (views : List DriveView) (are : AreDrives drive_units g views) (alive : (d : ℕ) (v : DriveView) → slice_get views d ≡ Some v → v.lost ≡ false)
    (number : ℕ) (c : Cells) (same : (x : Place) → x.drive ≢ number → held c x ≡ held (cells drive_units drive_lost views) x) (none : (x : Place) → x.drive ≡ number → held c x ≡ None) where
  abbrev now : Cells
  now = cells drive_units drive_lost views

  fades : (x : Place) → FadesAt now c x
  fades x = elim (same_or_not x.drive number) [ inl e ↦ inr (none x e) | inr ne ↦ inl (same x ne) ]

  sized : (x : Place) (u : List ℕ) → held now x ≡ Some u → length u ≡ unit_bytes g
  sized x u e = of_size (unit_bytes g) (slice_get views x.drive) x.address u (alive x.drive) (λ v is at. are.sized x.drive v is x.address u at) e

  -- a place of a drive has a unit
  holds : (x : Place) → IsPlace drive_units views x → (u : List ℕ) × (held now x ≡ Some u)
  holds x place =
      let v = there views x.drive place.inside in
      let u = there v.0.units x.address (place.low v.0 v.1) in
      (u.0, of_view (slice_get views x.drive) v.0 x.address v.1 (alive x.drive v.0 v.1) ∙ u.1)

  -- a place without a unit is of that drive
  on_it : (x : Place) → IsPlace drive_units views x → held c x ≡ None → x.drive ≡ number
  on_it x place gone = elim (same_or_not x.drive number) [
    | inl e ↦ e
    | inr ne ↦ (let u = holds x place in absurd (none-some u.0 (sym gone ∙ same x ne ∙ u.1)))
  ]

  -- each site has a unit
  never : (site : Site) → IsDriveDisjoint site → ((x : Place) → IsOf site x → IsPlace drive_units views x) → unit_at (unit_bytes g) c site ≡ None → ⊥
  never (Pair p q) whole place e =
      let both = neither (held c p) (held c q) e in
      whole (on_it p (place p (inl refl)) both.0 ∙ sym (on_it q (place q (inr refl)) both.1))
  never (InStripe row parity i) whole place e =
      let n = unit_bytes g in
      let blank : Option (List ℕ) = Some (replicate n 0) in
      let any : Place = record { drive = 0; address = 0 } in
      let both = neither (row_of c row i) (others n (length row) (row_of c row) i) e in
      let k = total_none n (length row) (put (row_of c row) i blank) both.1 in
      let apart : k.0 ≢ i = λ q. none-some (replicate n 0) (sym k.2 ∙ ap (put (row_of c row) i blank) q ∙ put_same (row_of c row) i blank) in
      let here = slice_get-get_or row i any whole.0 in
      let other = slice_get-get_or row k.0 any k.1 in
      let x = get_or row i any in
      let y = get_or row k.0 any in
      let mine : x.drive ≡ number = on_it x (place x (i, here)) (sym (ap (held_in c) here) ∙ both.0) in
      let theirs : y.drive ≡ number = on_it y (place y (k.0, other)) (sym (ap (held_in c) other) ∙ sym (put_other (row_of c row) i k.0 blank apart) ∙ k.2) in
      apart (sym (whole.3 i k.0 x y here other (mine ∙ sym theirs)))

  site_kept : (slot : ℕ) (site : Site) → AreSound g now → site_of g slot ≡ Some site → (v : List ℕ) → unit_at (unit_bytes g) now site ≡ Some v → unit_at (unit_bytes g) c site ≡ Some v
  site_kept slot site sound at v e =
      let n = unit_bytes g in
      let whole = (layout_law g formed).whole slot site at in
      let was = there_is (unit_at n c site) (never site whole (site_places drive_units g views slot site formed are at)) in
      let kept = site_fades n now c site sized whole (λ x of. fades x) (sound slot site at) in
      was.1 ∙ sym (kept.unit was.0 was.1) ∙ e

  slot_kept : (slot : ℕ) (o : Option Site) → site_of g slot ≡ o → AreSound g now → (v : List ℕ) → unit_in (unit_bytes g) now o ≡ Some v → unit_in (unit_bytes g) c o ≡ Some v
  slot_kept slot None at sound v e = absurd (none-some v e)
  slot_kept slot (Some site) at sound v e = site_kept slot site sound at v e

  pub shows_whole : (units : ℕ → Option Stored) → AreSound g now → ShowsUnits g c units → ShowsUnits g now units
  shows_whole units sound shows = record {
    sound = sound;
    shown = λ slot bytes e. shows.shown slot bytes (slot_kept slot (site_of g slot) refl sound bytes e);
  }
