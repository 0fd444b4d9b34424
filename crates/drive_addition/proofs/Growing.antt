-- The array in memory on one drive more shows what it showed.
use Rattle.std.proofs.Common.{◌≡◌, ◌+◌, ◌<◌, ℕ, Bool, false, None, List, length, sym, ◌∙◌, ap, subst, arith}
use Rattle.std.specs.Prelude.{slice_index}
use Rattle.std.proofs.lemmas.List.{length-map}
use Rattle.map_join.specs.Maps.{IsSame}
use Rattle.extents.specs.Condition.{Held}
use Rattle.extent_groups.specs.Groups.{Groups}
use Rattle.extent_groups.specs.Missing.{is_missing}
use Rattle.flat_machine.specs.Flat.{Flat, Write}
use Rattle.slot_tables.specs.Views.{key_at}
use Rattle.unit_store.specs.Fit.{IsFit}
use Rattle.unit_store.specs.Memory.{held_units}
use Rattle.unit_store.specs.Views.{PartsView, drive_lost, lost_of}
use Rattle.unit_store.specs.declared.parts.Parts.{Parts}
use Rattle.tiered_array.specs.Matches.{RepresentsTiers}
use Rattle.tiered_array.specs.Regrouping.{IsBalanceOf}
use Rattle.tiered_array.specs.Tiered.{Tiered}
use Rattle.tiered_array.specs.Views.{TiersView}
use Rattle.byte_store.specs.Lasting.{Shown}
use Rattle.array_store.specs.Blocks.{Holds, SpansBlocks}
use Rattle.journaled_store.specs.Left.{HasBoth}
use Rattle.journaled_store.specs.Outlasting.{parts_of}
use Rattle.array_recovery.specs.Reopened.{LosesMore}
use Rattle.array_expansion.specs.Expansion.{IsExpanded, SameShapes}
use Rattle.array_expansion.proofs.Kept.{one_more_drive, payload_kept, writes_kept}
use Rattle.drive_rebuild.proofs.Shown.{there}
use Rattle.array_batch.specs.Arrays.{AreHeldPresent, held_view}
use Rattle.array_batch.proofs.Arrays.{of_held, shown_at}
use Rattle.drive_addition.specs.Grown.{IsGrownTo}

-- the array of before in memory, and the one that it grew to
module _ (what : Shown) (before : Parts Held) (fit : IsFit held_units before) (old new : TiersView) (holds : Holds old what.bytes)
    (map_was : IsSame (key_at old.world.array) (slice_index what.keys)) (loses : LosesMore (held_view before) (parts_of old))
    (U : Tiered) (matches : RepresentsTiers new U) (grown : IsExpanded holds.state.flat U.flat) (even : IsBalanceOf U.flat None)
    (map_is : IsSame (key_at new.world.array) (key_at old.world.array)) (after : Parts Held) (parts_are : held_view after ≡ parts_of new) (present : AreHeldPresent after.drives.items) where
  abbrev F : Flat
  F = holds.state.flat

  abbrev G : Flat
  G = U.flat

  spans : SpansBlocks G.groups.payload G.writes what.bytes
  spans = subst (λ n. SpansBlocks n G.writes what.bytes) (sym (payload_kept F G grown))
      (subst (λ (ws : List Write). SpansBlocks F.groups.payload ws what.bytes) (sym (writes_kept F G grown)) holds.shows)

  both : HasBoth new what
  both = record { holds = record { state = U; matches = matches; shows = spans }; keys_are = λ b. sym (map_is b ∙ map_was b) }

  groups_were : F.groups ≡ before.groups
  groups_were = holds.matches.world.array.tables.groups ∙ loses.groups

  groups_are : G.groups ≡ after.groups
  groups_are = matches.world.array.tables.groups ∙ sym (ap (λ (v : PartsView). v.groups) parts_are)

  drives_were : F.drives ≡ length before.drives.items
  drives_were = holds.matches.world.array.tables.drives ∙ loses.many ∙ length-map before.drives.items of_held

  drives_are : G.drives ≡ length before.drives.items + 1
  drives_are = one_more_drive F G grown ∙ ap (λ n. n + 1) drives_were

  many : length after.drives.items ≡ length before.drives.items + 1
  many = sym (length-map after.drives.items of_held) ∙ ap (λ (v : PartsView). length v.drives) parts_are ∙ sym matches.world.array.tables.drives ∙ drives_are

  alive : (d : ℕ) → d < length before.drives.items + 1 → G.lost d ≡ false
  alive d low =
      let m = there after.drives.items d (omega (arith, low, many)) in
      ap (λ (f : ℕ → Bool). f d) matches.world.array.tables.lost
      ∙ ap (λ (v : PartsView). lost_of v d) (sym parts_are)
      ∙ ap (is_missing drive_lost) (shown_at after.drives.items d m.0 m.1)
      ∙ present d m.0 m.1

  -- a size of the groups
  same_size : (size : Groups → ℕ) → size G.groups ≡ size F.groups → size before.groups ≡ size after.groups
  same_size size kept = ap size (sym groups_were) ∙ sym kept ∙ ap size groups_are

  pub is_grown : IsGrownTo what before.shape before.groups (length before.drives.items + 1) after
  is_grown = record {
    tiers = new;
    shows = both;
    parts_are = sym parts_are;
    many = many;
    are = record {
      sizes = record {
        of_extents = fit.shape.of_extents ∙ same_size (λ g. g.extents) grown.spread.groups.extents;
        of_segments = fit.shape.of_segments ∙ same_size (λ g. g.segments) grown.spread.groups.segments;
        of_payload = fit.shape.of_payload ∙ same_size (λ g. g.payload) grown.spread.groups.payload;
        of_blocks = fit.shape.of_blocks ∙ same_size (λ g. g.blocks) grown.spread.groups.blocks;
      };
      kept = subst (λ (g : Groups). SameShapes g after.groups) groups_were (subst (λ (g : Groups). SameShapes F.groups g) groups_are grown.spread.groups);
      spread = record { state = G; groups_are = groups_are; drives_are = drives_are; alive = alive; even = even };
    };
  }
