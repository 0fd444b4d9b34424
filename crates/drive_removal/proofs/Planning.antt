-- The drives that are read into memory are those of the array that a vault has, and after the batch it has the array without its last drive.
use Rattle.std.proofs.Common.{◌≡◌, ◌≢◌, ◌+◌, ◌*◌, ◌<◌, ◌≤◌, inl, inr, ℕ, suc, true, Option, Some, None, is_some, List, [], ◌∷◌, ◌++◌, length, map, replicate, slice_get, if◌then◌else◌, sym, ◌∙◌, ap, subst, arith}
use Rattle.std.specs.Prelude.{option_map}
use Rattle.std.proofs.lemmas.Bool.{cases_lt}
use Rattle.std.proofs.lemmas.List.{length-map, length-replicate}
use Rattle.std.proofs.lemmas.Option.{same_Some, slice_get-map, slice_get_cases, slice_get_within}
use Rattle.extents.specs.Condition.{Held}
use Rattle.extents.specs.Sizes.{extent_units}
use Rattle.extents.specs.declared.shape.Shape.{Shape}
use Rattle.extent_groups.specs.Calls.{Fades}
use Rattle.extent_groups.specs.Cells.{Cells, cell}
use Rattle.extent_groups.specs.Groups.{Groups}
use Rattle.extent_groups.specs.Missing.{is_missing}
use Rattle.extent_groups.specs.Planned.{Intended, after}
use Rattle.extent_groups.specs.declared.place.Place.{Place}
use Rattle.unit_store.specs.Views.{DriveView, PartsView, drive_cells, drive_lost, drive_units, lost_of}
use Rattle.unit_store.specs.declared.parts.Parts.{Parts}
use Rattle.group_form.specs.Form.{HasFormPlaces, HasGroups}
use Rattle.byte_store.specs.Lasting.{Shown}
use Rattle.journaled_store.specs.Outlasting.{parts_of}
use Rattle.journaled_store.specs.Steps.{table_write}
use Rattle.journaled_store.proofs.Settled.{groups_on}
use Rattle.array_recovery.specs.Found.{IsTable}
use Rattle.array_recovery.specs.Reopened.{EndsAt, Outlives}
use Rattle.drive_rebuild.proofs.Shown.{of_view, there}
use Rattle.array_batch.specs.Arrays.{HasArray, held_view}
use Rattle.array_batch.specs.Batched.{HasAllDriveUnits}
use Rattle.array_batch.proofs.Arrays.{array_put, ends_after, form_there, of_held, shown_at}
use Rattle.array_batch.proofs.Batching.{at, put_else, put_here}
use Rattle.drive_removal.specs.Removed.{HasOthers, IsRemovedIn}
use Rattle.drive_removal.specs.Shortened.{AreOthersOf, IsShortenedTo}
use Rattle.drive_removal.proofs.Lists.{zeros_are}

module _ (what : Shown) (groups : Groups) (drives : ℕ) (c : Cells) (array : HasOthers what groups drives c) where
  -- the drives that were read
  module _ (caches : List Held) (others : AreOthersOf c drives caches) where
    abbrev olds : List DriveView
    olds = (parts_of array.tiers).drives

    fade_kept : (d a : ℕ) (m : Held) → d + 1 < drives → slice_get caches d ≡ Some m → (o : Option DriveView) → o ≡ Some (of_held m) → Fades (drive_cells (parts_of array.tiers) d a) (cell drive_units drive_lost o a)
    fade_kept d a m low is o e =
        let here : cell drive_units drive_lost o a ≡ slice_get m.units a = of_view o (of_held m) a e (others.present d m low is) in
        elim (slice_get_cases m.units a).1 [
          | inr none ↦ inr (here ∙ none.1)
          | inl some ↦
              (let all = array.many in
              let v = there olds d (omega (arith, low, all)) in
              inl (here ∙ sym (others.units d a m low is some.1) ∙ array.units d a v.0 low v.1 ∙ sym (of_view (slice_get olds d) v.0 a v.1 (array.alive d v.0 low v.1))))
        ]

    -- a lost drive has no unit
    fade_last : (d a : ℕ) (m : Held) → d + 1 ≡ drives → slice_get caches d ≡ Some m → (o : Option DriveView) → o ≡ Some (of_held m) → Fades (drive_cells (parts_of array.tiers) d a) (cell drive_units drive_lost o a)
    fade_last d a m last is o e = inr (ap (λ (p : Option DriveView). cell drive_units drive_lost p a) e ∙ ap (λ b. if b then None else slice_get m.units a) (others.last d m last is))

    fade : (d a : ℕ) → Fades (drive_cells (parts_of array.tiers) d a) (cell drive_units drive_lost (slice_get (map of_held caches) d) a)
    fade d a = elim (slice_get_cases caches d).1 [
      | inl some ↦ elim (cases_lt (d + 1) drives) [
        | inl low ↦ fade_kept d a some.0 low some.2 (slice_get (map of_held caches) d) (shown_at caches d some.0 some.2)
        | inr high ↦
            (let within = some.1 in
            let many = others.many in
            fade_last d a some.0 (omega (arith, within, many, high)) some.2 (slice_get (map of_held caches) d) (shown_at caches d some.0 some.2))
      ]
      | inr none ↦ inr (ap (λ (o : Option DriveView). cell drive_units drive_lost o a) (slice_get-map of_held caches d ∙ ap (option_map of_held) none.1))
    ]

    pub outlives : (parts : Parts Held) → parts.groups ≡ groups → parts.drives.items ≡ caches → Outlives (parts_of array.tiers) (held_view parts)
    outlives parts groups_are drives_are = record {
      groups = groups_are ∙ sym array.groups_are;
      many = length-map parts.drives.items of_held ∙ ap length drives_are ∙ others.many ∙ sym array.many;
      fades = λ x. subst (λ (l : List Held). Fades (drive_cells (parts_of array.tiers) x.drive x.address) (cell drive_units drive_lost (slice_get (map of_held l) x.drive) x.address)) (sym drives_are) (fade x.drive x.address);
    }

    -- the last is lost
    pub last_lost : (d : ℕ) → d + 1 ≡ drives → (parts : Parts Held) → parts.drives.items ≡ caches → lost_of (held_view parts) d ≡ true
    last_lost d last parts drives_are =
        let many = others.many in
        let m = there caches d (omega (arith, last, many)) in
        ap (λ (l : List Held). is_missing drive_lost (slice_get (map of_held l) d)) drives_are ∙ ap (is_missing drive_lost) (shown_at caches d m.0 m.1) ∙ others.last d m.0 last m.1

  -- the array in memory on one drive fewer, and a batch with its units, its groups and a table without marks
  module _ (shape : Shape) (drive : ℕ) (few : drive ≤ 16) (ends : EndsAt [] drive (shape.extents * extent_units shape.segments) c) (parts : Parts Held) (short : IsShortenedTo what shape groups drive parts)
      (batch writes : List Intended) (has : HasAllDriveUnits parts.drives.items (after c batch)) (spelled : (e : Cells) → HasFormPlaces e → HasGroups parts.groups (length parts.drives.items) (after e batch))
      (marks : (e : Cells) → after e batch 16 0 ≡ e 16 0) (put : writes ≡ batch ++ table_write (replicate 16 0) ∷ []) where
    abbrev now : Cells
    now = after c writes

    abbrev units : ℕ
    units = shape.extents * extent_units shape.segments

    elsewhere : (x : Place) → x ≢ at 16 0 → now x.drive x.address ≡ after c batch x.drive x.address
    elsewhere x ne = put_else batch writes (at 16 0) (replicate 16 0) put c x ne

    table_now : IsTable (replicate 16 0) now
    table_now = put_here batch writes (at 16 0) (replicate 16 0) put c (marks c) (ap (λ (o : Option (List ℕ)). is_some o) array.marked)

    low16 : (d : ℕ) (m : Held) → slice_get parts.drives.items d ≡ Some m → (a : ℕ) → at d a ≢ at 16 0
    low16 d m is a e =
        let low = slice_get_within parts.drives.items d m is in
        let many = short.many in
        let same : d ≡ 16 = ap (λ (x : Place). x.drive) e in
        omega (arith, low, many, few, same)

    has_now : HasAllDriveUnits parts.drives.items now
    has_now d m is a low = elsewhere (at d a) (low16 d m is a) ∙ has d m is a low

    groups_now : HasGroups parts.groups (length parts.drives.items) now
    groups_now = groups_on parts.groups (length parts.drives.items) (after c batch) now
        (λ a. elsewhere (at 16 (suc a)) (λ e. let same : suc a ≡ 0 = ap (λ (x : Place). x.address) e in omega (arith, same)))
        (spelled c (form_there groups drives c array.table))

    past : EndsAt [] drive units now
    past = ends_after drive units c writes ends

    long : (d : ℕ) (m : Held) → slice_get parts.drives.items d ≡ Some m → length m.units ≡ units
    long d m is = short.count d m is ∙ ap (λ n. n * extent_units parts.groups.segments) (sym short.sizes.of_extents) ∙ ap (λ n. shape.extents * extent_units n) (sym short.sizes.of_segments)

    array_now : HasArray what parts.groups (length parts.drives.items) now
    array_now = array_put what short.tiers short.shows parts.groups parts.drives.items (ap (λ (p : PartsView). p.groups) short.parts_are) (ap (λ (p : PartsView). p.drives) short.parts_are)
        (subst (λ n. n ≤ 16) (sym short.many) few) short.present units long now has_now (subst (λ n. EndsAt [] n units now) (sym short.many) past) groups_now
        (record { marks = replicate 16 0; table = table_now; clear = zeros_are 16 })

    pub removed : IsRemovedIn what shape groups drive units now
    removed = record {
      groups = parts.groups;
      sizes = short.sizes;
      kept = short.kept;
      array = subst (λ n. HasArray what parts.groups n now) short.many array_now;
      wide = λ others table. ap (λ (l : List ℕ). length l) (same_Some others (replicate 16 0) (sym table ∙ table_now)) ∙ length-replicate {A = ℕ} 16 0;
      ends = past;
    }
