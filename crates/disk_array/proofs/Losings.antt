-- Drives in memory: new ones, and what a fuse leaves of an array's.
use Rattle.std.proofs.Common.{◌≡◌, ℕ, ◌<◌, Bool, List, [], length, map, refl, sym, ap, ◌∙◌, subst, Some}
use Rattle.std.specs.Prelude.{slice_get, slice_set}
use Rattle.std.specs.Option.{option_map}
use Rattle.std.proofs.lemmas.List.{map-set, length-set}
use Rattle.std.proofs.lemmas.Option.{slice_get-get_or, slice_get-map, same_Some}
use Rattle.extents.specs.Condition.{Held, after_fuse}
use Rattle.extents.specs.declared.mem_drive.Condition.{Condition}
use Rattle.extents.specs.declared.mem_drive.Condition.TheVariants.{Present, Fused, Lost, Burnt}
use Rattle.extents.specs.Failures.{Failures, fused}
use Rattle.extents.specs.Units.{zero_units}
use Rattle.extent_groups.specs.Stores.{AreSound, KeepsUnits}
use Rattle.flat_machine.specs.Flat.{Flat, put}
use Rattle.flat_machine.specs.Moves.{with_fuse}
use Rattle.flat_machine.proofs.Keeps.{fared}
use Rattle.unit_store.specs.declared.parts.Parts.{Parts}
use Rattle.unit_store.specs.Losses as drives
use Rattle.unit_store.specs.Losses.{KeepsTables}
use Rattle.unit_store.specs.Memory.{held_units, held_lost, held_failures, IsSetTo}
use Rattle.unit_store.specs.Slots.{cells_in, missing_in}
use Rattle.unit_store.specs.Views.{DriveView, PartsView, drive_view, view_of, lost_of}
use Rattle.unit_store.proofs.Calls.{kept_shows, same_tables}
use Rattle.unit_store.proofs.Views.{view_lost, view_failures, view_length}
use Rattle.slot_tables.specs.Represents.{InTables, ShowsArray}
use Rattle.slot_tables.specs.Views.{ArrayView, key_at, with_parts}
use Rattle.disk_array.specs.Losing.{WasFused}
use Rattle.disk_array.proofs.Pulled.{drive_below}

-- a drive in memory, and parts with such drives, as plain data
abbrev pub held_view : Held → DriveView
held_view = drive_view held_units held_lost held_failures

abbrev pub held_parts : Parts Held → PartsView
held_parts = view_of held_units held_lost held_failures

-- one with a fuse
abbrev pub fused_view : DriveView → DriveView
fused_view x = record x { failures = fused x.lost x.failures }

fuse_view : (units : List (List ℕ)) (c : Condition) (calls : ℕ)
    → held_view (record { units = units; condition = after_fuse c calls }) ≡ fused_view (held_view (record { units = units; condition = c }))
fuse_view units Present calls = refl
fuse_view units (Fused left) calls = refl
fuse_view units Lost calls = refl
fuse_view units Burnt calls = refl

-- the drive of a number
drive_at : (ds : List Held) (d : ℕ) → d < length ds → (m : Held) × (slice_get ds d ≡ Some m)
drive_at ds d inside = (_, slice_get-get_or ds d (record { units = []; condition = Lost }) inside)

-- a fuse
fused_drives : (a b : List Held) (d calls : ℕ) (x : DriveView) → d < length a → IsSetTo (λ c. after_fuse c calls) a b d → slice_get (map held_view a) d ≡ Some x
    → map held_view b ≡ slice_set (map held_view a) d (fused_view x)
fused_drives a b d calls x inside set at =
    let m = drive_at a d inside in
    let same : held_view m.0 ≡ x = same_Some (held_view m.0) x (sym (slice_get-map held_view a d ∙ ap (option_map held_view) m.1) ∙ at) in
    ap (map held_view) (set m.0 m.1) ∙ map-set held_view a d (record (m.0) { condition = after_fuse m.0.condition calls })
    ∙ ap (slice_set (map held_view a) d) (fuse_view m.0.units m.0.condition calls ∙ ap fused_view same)

pub was_fused : (a b : Parts Held) (v : PartsView) (drive calls : ℕ) → held_parts a ≡ v → drive < length v.drives → IsSetTo (λ c. after_fuse c calls) a.drives.items b.drives.items drive
    → ((d : ℕ) → missing_in held_lost b d ≡ missing_in held_lost a d)
    → ((d : ℕ) → drives.failures_by_drive held_failures b.drives.items d
    ≡ put (drives.failures_by_drive held_failures a.drives.items) drive (fused (missing_in held_lost a drive) (drives.failures_by_drive held_failures a.drives.items drive)) d)
    → (AreSound a.groups (cells_in held_units held_lost a) → KeepsUnits a.groups (cells_in held_units held_lost a) (cells_in held_units held_lost b))
    → (AreSound a.groups (cells_in held_units held_lost a) → AreSound b.groups (cells_in held_units held_lost b))
    → KeepsTables a b → WasFused (held_parts a) (held_parts b) drive
was_fused a b v drive calls seen below set missing failures keeps sound tables = record {
  drives = λ x at. fused_drives a.drives.items b.drives.items drive calls x inside set at;
  lost = λ d. ap (λ f. f d) (view_lost held_units held_lost held_failures b) ∙ missing d
      ∙ ap (λ f. f d) (sym (view_lost held_units held_lost held_failures a));
  failures = λ d. ap (λ f. f d) (view_failures held_units held_lost held_failures b) ∙ failures d
      ∙ ap (λ l. put (drives.failures_by_drive held_failures a.drives.items) drive (fused (l drive) (drives.failures_by_drive held_failures a.drives.items drive)) d)
      (sym (view_lost held_units held_lost held_failures a))
      ∙ ap (λ f. put f drive (fused (lost_of (held_parts a) drive) (f drive)) d) (sym (view_failures held_units held_lost held_failures a));
  shows = kept_shows held_units held_lost held_failures a b tables keeps
      (λ s. subst (λ t. AreSound t (cells_in held_units held_lost b)) tables.groups (sound s));
  many = many;
  rest = same_tables held_units held_lost held_failures a b tables;
}
  where
    inside : drive < length a.drives.items
    inside = drive_below held_units held_lost held_failures a v drive seen below

    many : length (held_parts b).drives ≡ length (held_parts a).drives
    many =
        let m = drive_at a.drives.items drive inside in
        let y : Held = record (m.0) { condition = after_fuse m.0.condition calls } in
        view_length held_units held_lost held_failures b ∙ ap length (set m.0 m.1) ∙ length-set a.drives.items drive y
        ∙ sym (view_length held_units held_lost held_failures a)

-- a new drive of `count` units, each of `bytes` bytes
abbrev pub new_drive : ℕ → ℕ → Held
new_drive bytes count = record { units = zero_units bytes count; condition = Present }

-- each of these drives is new
abbrev pub AreNewDrives : ℕ → ℕ → List Held → Type 0
AreNewDrives bytes count ds = (d : ℕ) (m : Held) → slice_get ds d ≡ Some m → m ≡ new_drive bytes count

-- an array one of whose drives was given a fuse
pub fuse_array : (a : ArrayView) (F : Flat) (drive : ℕ) (p : PartsView) → ShowsArray a F → WasFused a.parts p drive → ShowsArray (with_parts a p) (with_fuse F drive)
fuse_array a F drive p shows was = record {
  history = fared F F.lost (with_fuse F drive).failures (key_at a) shows.history;
  units = was.shows F.units shows.units;
  tables = record {
    groups = is.groups ∙ sym was.rest.groups;
    drives = is.drives ∙ sym was.many;
    lost = is.lost ∙ (λ i d. sym (was.lost d) i);
    failures = ap (λ (l : ℕ → Bool). put F.failures drive (fused (l drive) (F.failures drive))) is.lost
        ∙ ap (λ (f : ℕ → Failures). put f drive (fused (lost_of a.parts drive) (f drive))) is.failures ∙ (λ i d. sym (was.failures d) i);
    log = is.log;
    slots = is.slots;
  };
}
  where
    is : InTables a F
    is = shows.tables
