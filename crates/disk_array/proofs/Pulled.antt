-- What a loss from outside leaves of an array's drives.
use Rattle.std.proofs.Common.{◌≡◌, ℕ, ◌<◌, Bool, true, List, length, map, sym, ap, ◌∙◌, subst, arith, Some, inl, inr}
use Rattle.std.specs.Prelude.{slice_get, slice_set}
use Rattle.std.specs.Option.{option_map}
use Rattle.std.proofs.lemmas.List.{map-set, length-set}
use Rattle.std.proofs.lemmas.Option.{slice_get_cases, slice_get-map, same_Some}
use Rattle.extents.specs.Failures.{Failures, settled}
use Rattle.extent_groups.specs.Stores.{AreSound, KeepsUnits}
use Rattle.flat_machine.specs.Flat.{put}
use Rattle.unit_store.specs.declared.parts.Parts.{Parts}
use Rattle.unit_store.specs.Fit.{IsFit}
use Rattle.unit_store.specs.Losses.{KeepsTables, LosesDrive, failures_by_drive}
use Rattle.unit_store.specs.Slots.{cells_in, missing_in}
use Rattle.unit_store.specs.Views.{DriveView, PartsView, drive_view, view_of}
use Rattle.unit_store.proofs.Calls.{kept_shows, same_tables}
use Rattle.unit_store.proofs.Views.{view_lost, view_failures, view_length}
use Rattle.slot_tables.specs.Kept.{AreOf}
use Rattle.slot_tables.specs.Views.{IsWhole}
use Rattle.disk_array.specs.declared.array.Array.TheInside.{Inside}
use Rattle.disk_array.specs.Inside.{seen, IsReady}
use Rattle.disk_array.specs.Losing.{WasLost}
use Rattle.disk_array.proofs.Ready.{Keeps, parts_ready, still_whole}

-- a drive that is lost from outside, as plain data
abbrev pub lost_view : DriveView → DriveView
lost_view x = record x { lost = true; failures = settled x.failures }

-- the drive of a number
drive_at : {D : Type 0} (ds : List D) (d : ℕ) → d < length ds → (m : D) × (slice_get ds d ≡ Some m)
drive_at ds d inside = elim (slice_get_cases ds d).1 [
  | inl there ↦ (there.0, there.2)
  | inr past ↦ absurd (omega (arith, past.0, inside))
]

-- a number below the count of drives that is seen
pub drive_below : {D : Type 0} (units : D → List (List ℕ)) (lost : D → Bool) (failures : D → Failures) (a : Parts D) (v : PartsView) (drive : ℕ)
    → view_of units lost failures a ≡ v → drive < length v.drives → drive < length a.drives.items
drive_below units lost failures a v drive is inside =
    subst (λ n. drive < n) (view_length units lost failures a) (subst (λ (p : PartsView). drive < length p.drives) (sym is) inside)

-- an array whose drives were lost or fused is whole and ready as it was
pub still_matches : {D C : Type 0} (units : D → List (List ℕ)) (lost : D → Bool) (failures : D → Failures) (names : C → ℕ) (a : Inside D C) (p : Parts D)
    → Keeps (view_of units lost failures a.parts) (view_of units lost failures p) → IsFit units p
    → IsWhole (seen units lost failures a) × AreOf names a.places.items × IsReady units a
    → IsWhole (seen units lost failures (record a { parts = p })) × AreOf names a.places.items × IsReady units (record a { parts = p })
still_matches units lost failures names a p same fit matches = (
  still_whole units lost failures a p same fit matches.0,
  matches.1,
  parts_ready units a p same.tables.groups fit matches.2,
)

module _ {D : Type 0} (units : D → List (List ℕ)) (lost : D → Bool) (failures : D → Failures) (a b : Parts D) (drive : ℕ)
    (gone : LosesDrive units lost failures a.drives.items b.drives.items drive) (inside : drive < length a.drives.items) where
  abbrev pub view : D → DriveView
  view = drive_view units lost failures

  abbrev pub parts : Parts D → PartsView
  parts = view_of units lost failures

  -- the drive that is lost, as it was and as it is
  was : (m : D) × (slice_get a.drives.items drive ≡ Some m)
  was = drive_at a.drives.items drive inside

  is : (k : D) × (b.drives.items ≡ slice_set a.drives.items drive k) × (units k ≡ units was.0) × (lost k ≡ true) × (failures k ≡ settled (failures was.0))
  is = gone was.0 was.1

  seen_as : view is.0 ≡ lost_view (view was.0)
  seen_as =
      ap (λ (u : List (List ℕ)). let x : DriveView = record { units = u; lost = lost is.0; failures = failures is.0 } in x) is.2
      ∙ ap (λ (l : Bool). let x : DriveView = record { units = units was.0; lost = l; failures = failures is.0 } in x) is.3
      ∙ ap (λ (f : Failures). let x : DriveView = record { units = units was.0; lost = true; failures = f } in x) is.4

  drives_are : (x : DriveView) → slice_get (map view a.drives.items) drive ≡ Some x → map view b.drives.items ≡ slice_set (map view a.drives.items) drive (lost_view x)
  drives_are x at =
      let same : view was.0 ≡ x = same_Some (view was.0) x (sym (slice_get-map view a.drives.items drive ∙ ap (option_map view) was.1) ∙ at) in
      ap (map view) is.1 ∙ map-set view a.drives.items drive is.0 ∙ ap (slice_set (map view a.drives.items) drive) (seen_as ∙ ap lost_view same)

  many : length (parts b).drives ≡ length (parts a).drives
  many = view_length units lost failures b ∙ ap length is.1 ∙ length-set a.drives.items drive is.0 ∙ sym (view_length units lost failures a)

  pub was_lost : ((d : ℕ) → missing_in lost b d ≡ put (missing_in lost a) drive true d)
      → ((d : ℕ) → failures_by_drive failures b.drives.items d ≡ put (failures_by_drive failures a.drives.items) drive (settled (failures_by_drive failures a.drives.items drive)) d)
      → (AreSound a.groups (cells_in units lost a) → KeepsUnits a.groups (cells_in units lost a) (cells_in units lost b))
      → (AreSound a.groups (cells_in units lost a) → AreSound b.groups (cells_in units lost b))
      → KeepsTables a b → WasLost (parts a) (parts b) drive
  was_lost missing failed keeps sound tables = record {
    drives = drives_are;
    lost = λ d. ap (λ f. f d) (view_lost units lost failures b) ∙ missing d ∙ ap (λ f. put f drive true d) (sym (view_lost units lost failures a));
    failures = λ d. ap (λ f. f d) (view_failures units lost failures b) ∙ failed d
        ∙ ap (λ f. put f drive (settled (f drive)) d) (sym (view_failures units lost failures a));
    shows = kept_shows units lost failures a b tables keeps (λ s. subst (λ t. AreSound t (cells_in units lost b)) tables.groups (sound s));
    many = many;
    rest = same_tables units lost failures a b tables;
  }
