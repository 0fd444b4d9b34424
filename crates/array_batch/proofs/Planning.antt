-- The drives that are read into memory are those of the array that a vault has, and after the batch it has the array that was put together
-- in memory.
use Rattle.std.proofs.Common.{◌≡◌, ◌*◌, inl, inr, ℕ, Bool, false, Option, Some, List, [], length, map, slice_get, sym, ◌∙◌, ap, subst, arith}
use Rattle.std.specs.Prelude.{option_map}
use Rattle.std.proofs.lemmas.List.{length-map}
use Rattle.std.proofs.lemmas.Option.{slice_get-map, slice_get_cases, slice_get_within}
use Rattle.extents.specs.Condition.{Held, is_gone}
use Rattle.extents.specs.Sizes.{extent_units}
use Rattle.extents.specs.declared.shape.Shape.{Shape}
use Rattle.extent_groups.specs.Calls.{Fades}
use Rattle.extent_groups.specs.Cells.{Cells, cell}
use Rattle.extent_groups.specs.Groups.{Groups}
use Rattle.extent_groups.specs.Planned.{Intended, after}
use Rattle.unit_store.specs.Fit.{IsFit}
use Rattle.unit_store.specs.Memory.{held_units}
use Rattle.unit_store.specs.Views.{DriveView, PartsView, drive_cells, drive_lost, drive_units}
use Rattle.unit_store.specs.declared.parts.Parts.{Parts}
use Rattle.vault.specs.Images.{is_lost}
use Rattle.group_form.specs.Form.{HasFormPlaces, HasGroups}
use Rattle.byte_store.specs.Lasting.{Shown}
use Rattle.journaled_store.specs.Outlasting.{parts_of}
use Rattle.array_recovery.specs.Found.{AreFormed, HaveUnits}
use Rattle.array_recovery.specs.Reopened.{EndsAt, Outlives}
use Rattle.drive_rebuild.proofs.Shown.{of_view, there}
use Rattle.array_batch.specs.Arrays.{AreHeldPresent, HasArray, HaveSizes, held_view}
use Rattle.array_batch.specs.Batched.{HasAllDriveUnits}
use Rattle.array_batch.proofs.Arrays.{array_put, ends_after, form_there, of_held, shown_at}
use Rattle.array_batch.specs.Changes.{HasArrayWith, HasPartsWith}

module _ (what : Shown) (groups : Groups) (drives : ℕ) (c : Cells) (array : HasArray what groups drives c) where
  -- drives that were read
  module _ (counts : List Bool) (none : (d : ℕ) → is_lost counts d ≡ false) (count size : ℕ) (caches : List Held) (have : HaveUnits counts c caches)
      (formed : AreFormed count size caches) (many : length caches ≡ drives) where
    abbrev olds : List DriveView
    olds = (parts_of array.tiers).drives

    fade_unit : (d a : ℕ) (m : Held) → slice_get caches d ≡ Some m → (o : Option DriveView) → o ≡ Some (of_held m) → Fades (drive_cells (parts_of array.tiers) d a) (cell drive_units drive_lost o a)
    fade_unit d a m is o e =
        let here : cell drive_units drive_lost o a ≡ slice_get m.units a = of_view o (of_held m) a e (ap is_gone (formed.present d m is)) in
        elim (slice_get_cases m.units a).1 [
          | inr none ↦ inr (here ∙ none.1)
          | inl some ↦
              (let low = slice_get_within caches d m is in
              let all = array.many in
              let v = there olds d (omega (arith, low, many, all)) in
              inl (here ∙ sym (have.each d a m is (none d) some.1) ∙ array.units d a v.0 v.1 ∙ sym (of_view (slice_get olds d) v.0 a v.1 (array.alive d v.0 v.1))))
        ]

    fade : (d a : ℕ) → Fades (drive_cells (parts_of array.tiers) d a) (cell drive_units drive_lost (slice_get (map of_held caches) d) a)
    fade d a = elim (slice_get_cases caches d).1 [
      | inl some ↦ fade_unit d a some.0 some.2 (slice_get (map of_held caches) d) (shown_at caches d some.0 some.2)
      | inr none ↦ inr (ap (λ (o : Option DriveView). cell drive_units drive_lost o a) (slice_get-map of_held caches d ∙ ap (option_map of_held) none.1))
    ]

    pub outlives : (parts : Parts Held) → parts.groups ≡ groups → parts.drives.items ≡ caches → Outlives (parts_of array.tiers) (held_view parts)
    outlives parts groups_are drives_are = record {
      groups = groups_are ∙ sym array.groups_are;
      many = length-map parts.drives.items of_held ∙ ap length drives_are ∙ many ∙ sym array.many;
      fades = λ x. subst (λ (l : List Held). Fades (drive_cells (parts_of array.tiers) x.drive x.address) (cell drive_units drive_lost (slice_get (map of_held l) x.drive) x.address)) (sym drives_are) (fade x.drive x.address);
    }

  -- the array of afterwards in memory, and a batch with its units and its groups
  module _ (such : Groups → Type 0) (shape : Shape) (sizes : (g : Groups) → such g → HaveSizes shape g) (afterwards : ℕ) (ends : EndsAt [] afterwards (shape.extents * extent_units shape.segments) c)
      (parts : Parts Held) (grown : HasPartsWith such what afterwards parts) (fit : IsFit held_units parts) (present : AreHeldPresent parts.drives.items)
      (writes : List Intended) (has : HasAllDriveUnits parts.drives.items (after c writes)) (spelled : (e : Cells) → HasFormPlaces e → HasGroups parts.groups (length parts.drives.items) (after e writes))
      (marks : (e : Cells) → after e writes 16 0 ≡ e 16 0) where
    abbrev now : Cells
    now = after c writes

    abbrev units : ℕ
    units = shape.extents * extent_units shape.segments

    past : EndsAt [] afterwards units now
    past = ends_after afterwards units c writes ends

    fitting : HaveSizes shape parts.groups
    fitting = sizes parts.groups grown.are

    long : (d : ℕ) (m : Held) → slice_get parts.drives.items d ≡ Some m → length m.units ≡ units
    long d m is = fit.drives.many d m is ∙ ap (λ n. n * extent_units parts.groups.segments) (sym fitting.of_extents) ∙ ap (λ n. shape.extents * extent_units n) (sym fitting.of_segments)

    array_now : HasArray what parts.groups (length parts.drives.items) now
    array_now = array_put what grown.tiers grown.shows parts.groups parts.drives.items (ap (λ (p : PartsView). p.groups) grown.parts_are) (ap (λ (p : PartsView). p.drives) grown.parts_are)
        fit.most present units long now has (subst (λ n. EndsAt [] n units now) (sym grown.many) past) (spelled c (form_there groups drives c array.table))
        (record { marks = array.unmarked.marks; table = marks c ∙ array.unmarked.table; clear = array.unmarked.clear })

    pub planned : HasArrayWith such what afterwards units now
    planned = record { groups = parts.groups; are = grown.are; array = subst (λ n. HasArray what parts.groups n now) grown.many array_now; ends = past }
