-- The array in memory with other groups shows what it showed.
use Rattle.std.proofs.Common.{◌≡◌, ℕ, List, length, sym, ◌∙◌, ap, subst}
use Rattle.std.specs.Prelude.{slice_index}
use Rattle.std.proofs.lemmas.List.{length-map}
use Rattle.map_join.specs.declared.records.Record.{Record}
use Rattle.map_join.specs.Maps.{IsMapOf, IsSame}
use Rattle.extents.specs.Condition.{Held}
use Rattle.extent_groups.specs.Groups.{Groups}
use Rattle.flat_machine.specs.Flat.{Flat, Write}
use Rattle.flat_machine.proofs.Newest.{same_map}
use Rattle.slot_tables.specs.Views.{key_at}
use Rattle.unit_store.specs.Fit.{IsFit}
use Rattle.unit_store.specs.Memory.{held_units}
use Rattle.unit_store.specs.Views.{PartsView}
use Rattle.unit_store.specs.declared.parts.Parts.{Parts}
use Rattle.tiered_array.specs.Matches.{RepresentsTiers}
use Rattle.tiered_array.specs.Tiered.{begun}
use Rattle.tiered_array.specs.Views.{TiersView}
use Rattle.byte_store.specs.Lasting.{Shown}
use Rattle.array_store.specs.Blocks.{Holds, SpansBlocks}
use Rattle.journaled_store.specs.Left.{HasBoth}
use Rattle.journaled_store.specs.Outlasting.{parts_of}
use Rattle.array_recovery.specs.Reopened.{LosesMore}
use Rattle.array_batch.specs.Arrays.{HaveSizes, held_view}
use Rattle.array_batch.specs.Changes.{HasPartsWith}
use Rattle.array_batch.proofs.Arrays.{of_held}
use Rattle.group_changes.specs.Applied.{IsApplied}
use Rattle.group_changes.specs.Changed.{CanBeMade, IsChanged, groups_after}
use Rattle.group_changes.specs.declared.change.GroupChange.{GroupChange}
use Rattle.group_changes.proofs.Changing.{payload_stays, sizes_stay}

-- the array of before in memory, and the one of which the groups were changed
module _ (what : Shown) (change : GroupChange) (before : Parts Held) (fit : IsFit held_units before) (old new : TiersView) (holds : Holds old what.bytes)
    (map_was : IsSame (key_at old.world.array) (slice_index what.keys)) (loses : LosesMore (held_view before) (parts_of old))
    (G : Flat) (applied : IsApplied change holds.state.flat G) (matches : RepresentsTiers new (begun G)) (after : Parts Held) (parts_are : held_view after ≡ parts_of new) where
  abbrev F : Flat
  F = holds.state.flat

  groups_were : F.groups ≡ before.groups
  groups_were = holds.matches.world.array.tables.groups ∙ loses.groups

  groups_are : G.groups ≡ after.groups
  groups_are = matches.world.array.tables.groups ∙ sym (ap (λ (v : PartsView). v.groups) parts_are)

  drives_were : F.drives ≡ length before.drives.items
  drives_were = holds.matches.world.array.tables.drives ∙ loses.many ∙ length-map before.drives.items of_held

  many : length after.drives.items ≡ length before.drives.items
  many = sym (length-map after.drives.items of_held) ∙ ap (λ (v : PartsView). length v.drives) parts_are ∙ sym matches.world.array.tables.drives ∙ applied.now.drives ∙ drives_were

  payload_is : G.groups.payload ≡ F.groups.payload
  payload_is = ap (λ (t : Groups). t.payload) applied.now.groups_are ∙ payload_stays change F.groups

  spans : SpansBlocks G.groups.payload G.writes what.bytes
  spans = subst (λ n. SpansBlocks n G.writes what.bytes) (sym payload_is) (subst (λ (ws : List Write). SpansBlocks F.groups.payload ws what.bytes) (sym applied.now.writes) holds.shows)

  same_keys : IsSame (key_at new.world.array) (key_at old.world.array)
  same_keys block =
      ap (λ (keys : ℕ → ℕ). keys block)
      (same_map F.emitted (key_at new.world.array) (key_at old.world.array)
      (subst (λ (records : List Record). IsMapOf records (key_at new.world.array)) applied.now.log matches.world.array.history.map) holds.matches.world.array.history.map)

  both : HasBoth new what
  both = record { holds = record { state = begun G; matches = matches; shows = spans }; keys_are = λ b. sym (same_keys b ∙ map_was b) }

  new_are : after.groups ≡ groups_after change before.groups
  new_are = sym groups_are ∙ applied.now.groups_are ∙ ap (λ (t : Groups). groups_after change t) groups_were

  can : CanBeMade change before.groups (length before.drives.items)
  can = subst (λ n. CanBeMade change before.groups n) drives_were (subst (λ (t : Groups). CanBeMade change t F.drives) groups_were applied.can)

  pub is_regrouped : HasPartsWith (IsChanged change before.shape (length before.drives.items) before.groups) what (length before.drives.items) after
  is_regrouped = record {
    tiers = new;
    shows = both;
    parts_are = sym parts_are;
    many = many;
    are = record {
      can = can;
      new_are = new_are;
      sizes = subst (λ (t : Groups). HaveSizes before.shape t) (sym new_are) (sizes_stay change before.shape before.groups fit.shape);
    };
  }
