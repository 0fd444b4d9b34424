-- The array in memory whose last drive is empty, without that drive.
use Rattle.std.proofs.Common.{◌≡◌, ◌≤◌, ◌+◌, ◌*◌, ℕ, true, List, [], ◌∷◌, ◌++◌, length, map, slice_get, refl, sym, ◌∙◌, ap, subst, arith}
use Rattle.std.proofs.lemmas.List.{length-append, length-map, map-append}
use Rattle.extents.specs.Condition.{Held}
use Rattle.extents.specs.Sizes.{extent_units}
use Rattle.extents.specs.declared.shape.Shape.{Shape}
use Rattle.extent_groups.specs.Groups.{Groups}
use Rattle.unit_store.specs.Fit.{HaveUnitCount, IsFit}
use Rattle.unit_store.specs.Memory.{held_units}
use Rattle.unit_store.specs.Views.{PartsView}
use Rattle.unit_store.specs.declared.parts.Parts.{Parts}
use Rattle.tiered_array.specs.Matches.{RepresentsTiers}
use Rattle.byte_store.specs.Lasting.{Shown}
use Rattle.journaled_store.specs.Left.{HasBoth}
use Rattle.journaled_store.specs.Outlasting.{parts_of}
use Rattle.array_expansion.specs.Expansion.{SameShapes}
use Rattle.array_batch.specs.Arrays.{AreHeldPresent, HaveSizes, held_view}
use Rattle.array_batch.proofs.Arrays.{of_held}
use Rattle.drive_evacuation.specs.Evacuation.{AreClearOf, on_parts, with_drives}
use Rattle.drive_evacuation.proofs.Shortening.{without_last}
use Rattle.drive_removal.specs.Shortened.{IsEmptiedOf, IsShortenedTo}
use Rattle.drive_removal.proofs.Lists.{last_is, low_is}

module _ (what : Shown) (shape : Shape) (old : Groups) (drive : ℕ) (before after : Parts Held) (emptied : IsEmptiedOf what shape old (drive + 1) drive before) (fit : IsFit held_units before) (last : Held)
    (drives_are : before.drives.items ≡ after.drives.items ++ last ∷ []) (groups_are : after.groups ≡ before.groups) (enough : 3 ≤ drive) (present : AreHeldPresent after.drives.items) where
  abbrev rest : PartsView
  rest = held_view after

  many : length after.drives.items ≡ drive
  many =
      let all = emptied.many in
      let more : length before.drives.items ≡ length after.drives.items + 1 = ap (λ (l : List Held). length l) drives_are ∙ length-append after.drives.items (last ∷ []) in
      omega (arith, all, more)

  count : length rest.drives ≡ drive
  count = length-map after.drives.items of_held ∙ many

  lost : (of_held last).lost ≡ true
  lost = emptied.lost last (ap (λ (l : List Held). slice_get l drive) drives_are ∙ ap (λ n. slice_get (after.drives.items ++ last ∷ []) n) (sym many) ∙ last_is after.drives.items last)

  views : (parts_of emptied.tiers).drives ≡ rest.drives ++ of_held last ∷ []
  views = ap (λ (v : PartsView). v.drives) emptied.parts_are ∙ ap (λ (l : List Held). map of_held l) drives_are ∙ map-append of_held after.drives.items (last ∷ [])

  same_groups : rest.groups ≡ (parts_of emptied.tiers).groups
  same_groups = groups_are ∙ sym (ap (λ (v : PartsView). v.groups) emptied.parts_are)

  clear : AreClearOf emptied.shows.holds.state.flat.groups (length rest.drives)
  clear = subst (λ n. AreClearOf emptied.shows.holds.state.flat.groups n) (sym count)
      (subst (λ (z : Groups). AreClearOf z drive) (sym (emptied.shows.holds.matches.world.array.tables.groups ∙ ap (λ (v : PartsView). v.groups) emptied.parts_are)) emptied.clear)

  matches : RepresentsTiers (on_parts emptied.tiers rest) (record emptied.shows.holds.state { flat = with_drives emptied.shows.holds.state.flat rest })
  matches = without_last emptied.tiers emptied.shows.holds.state rest (of_held last) emptied.shows.holds.matches views lost same_groups (subst (λ n. 3 ≤ n) (sym count) enough) clear

  both : HasBoth (on_parts emptied.tiers rest) what
  both = record {
    holds = record { state = record emptied.shows.holds.state { flat = with_drives emptied.shows.holds.state.flat rest }; matches = matches; shows = emptied.shows.holds.shows };
    keys_are = emptied.shows.keys_are;
  }

  each : HaveUnitCount held_units after.drives.items (after.groups.extents * extent_units after.groups.segments)
  each d m is =
      fit.drives.many d m (ap (λ (l : List Held). slice_get l d) drives_are ∙ low_is after.drives.items last m d is)
      ∙ ap (λ (z : Groups). z.extents * extent_units z.segments) (sym groups_are)

  pub is_shortened : IsShortenedTo what shape old drive after
  is_shortened = record {
    tiers = on_parts emptied.tiers rest;
    shows = both;
    parts_are = refl;
    many = many;
    sizes = subst (HaveSizes shape) (sym groups_are) emptied.sizes;
    kept = subst (SameShapes old) (sym groups_are) emptied.kept;
    present = present;
    count = each;
  }
