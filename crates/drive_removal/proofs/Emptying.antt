-- The array in memory of which a lost drive was emptied shows what it showed.
use Rattle.std.proofs.Common.{◌≡◌, ℕ, true, Some, List, length, slice_get, sym, ◌∙◌, ap, subst}
use Rattle.std.specs.Prelude.{slice_index}
use Rattle.std.proofs.lemmas.List.{length-map}
use Rattle.map_join.specs.Maps.{IsSame}
use Rattle.extents.specs.Condition.{Held}
use Rattle.extent_groups.specs.Groups.{Groups}
use Rattle.extent_groups.specs.Missing.{is_missing}
use Rattle.flat_machine.specs.Flat.{Flat, Write}
use Rattle.slot_tables.specs.Views.{key_at}
use Rattle.unit_store.specs.Fit.{IsFit}
use Rattle.unit_store.specs.Memory.{held_lost, held_units}
use Rattle.unit_store.specs.Views.{PartsView, drive_lost, lost_of}
use Rattle.unit_store.specs.declared.parts.Parts.{Parts}
use Rattle.tiered_array.specs.Matches.{RepresentsTiers}
use Rattle.tiered_array.specs.Views.{TiersView}
use Rattle.byte_store.specs.Lasting.{Shown}
use Rattle.array_store.specs.Blocks.{Holds, SpansBlocks}
use Rattle.journaled_store.specs.Left.{HasBoth}
use Rattle.journaled_store.specs.Outlasting.{parts_of}
use Rattle.array_recovery.specs.Reopened.{LosesMore}
use Rattle.array_expansion.specs.Expansion.{IsSpread, SameShapes}
use Rattle.array_batch.specs.Arrays.{held_view}
use Rattle.array_batch.proofs.Arrays.{of_held, shown_at}
use Rattle.drive_evacuation.specs.Evacuation.{AreClearOf}
use Rattle.drive_removal.specs.Shortened.{IsEmptiedOf}

-- the array of before in memory, and the one whose drive was emptied
module _ (what : Shown) (before : Parts Held) (fit : IsFit held_units before) (drive : ℕ) (gone : lost_of (held_view before) drive ≡ true) (old new : TiersView) (holds : Holds old what.bytes)
    (map_was : IsSame (key_at old.world.array) (slice_index what.keys)) (loses : LosesMore (held_view before) (parts_of old))
    (G : Flat) (matches : RepresentsTiers new (record holds.state { flat = G })) (spread : IsSpread holds.state.flat G) (clear : AreClearOf G.groups drive)
    (map_is : IsSame (key_at new.world.array) (key_at old.world.array)) (after : Parts Held) (parts_are : held_view after ≡ parts_of new) where
  abbrev F : Flat
  F = holds.state.flat

  spans : SpansBlocks G.groups.payload G.writes what.bytes
  spans = subst (λ n. SpansBlocks n G.writes what.bytes) (sym spread.groups.payload)
      (subst (λ (ws : List Write). SpansBlocks F.groups.payload ws what.bytes) (sym (ap (λ (z : Flat). z.writes) spread.left.same)) holds.shows)

  both : HasBoth new what
  both = record { holds = record { state = record holds.state { flat = G }; matches = matches; shows = spans }; keys_are = λ b. sym (map_is b ∙ map_was b) }

  groups_were : F.groups ≡ before.groups
  groups_were = holds.matches.world.array.tables.groups ∙ loses.groups

  groups_are : G.groups ≡ after.groups
  groups_are = matches.world.array.tables.groups ∙ sym (ap (λ (v : PartsView). v.groups) parts_are)

  many : length after.drives.items ≡ length before.drives.items
  many = sym (length-map after.drives.items of_held) ∙ ap (λ (v : PartsView). length v.drives) parts_are ∙ sym matches.world.array.tables.drives
      ∙ ap (λ (z : Flat). z.drives) spread.left.same ∙ holds.matches.world.array.tables.drives ∙ loses.many ∙ length-map before.drives.items of_held

  -- a size of the groups
  same_size : (size : Groups → ℕ) → size G.groups ≡ size F.groups → size before.groups ≡ size after.groups
  same_size size kept = ap size (sym groups_were) ∙ sym kept ∙ ap size groups_are

  lost_still : G.lost drive ≡ true
  lost_still = (spread.left.drives drive).stays (ap (λ f. f drive) holds.matches.world.array.tables.lost ∙ loses.lost drive gone)

  lost_now : (m : Held) → slice_get after.drives.items drive ≡ Some m → held_lost m ≡ true
  lost_now m is = sym (ap (is_missing drive_lost) (shown_at after.drives.items drive m is)) ∙ ap (λ (v : PartsView). lost_of v drive) parts_are
      ∙ sym (ap (λ f. f drive) matches.world.array.tables.lost) ∙ lost_still

  pub is_emptied : IsEmptiedOf what before.shape before.groups (length before.drives.items) drive after
  is_emptied = record {
    tiers = new;
    shows = both;
    parts_are = sym parts_are;
    many = many;
    sizes = record {
      of_extents = fit.shape.of_extents ∙ same_size (λ g. g.extents) spread.groups.extents;
      of_segments = fit.shape.of_segments ∙ same_size (λ g. g.segments) spread.groups.segments;
      of_payload = fit.shape.of_payload ∙ same_size (λ g. g.payload) spread.groups.payload;
      of_blocks = fit.shape.of_blocks ∙ same_size (λ g. g.blocks) spread.groups.blocks;
    };
    kept = subst (λ (g : Groups). SameShapes g after.groups) groups_were (subst (λ (g : Groups). SameShapes F.groups g) groups_are spread.groups);
    clear = subst (λ (z : Groups). AreClearOf z drive) groups_are clear;
    lost = lost_now;
  }
