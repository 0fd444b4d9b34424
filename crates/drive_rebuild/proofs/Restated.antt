-- An array with other drives that show the same units.
use Rattle.std.proofs.Common.{◌≡◌, ℕ, List, length, refl, sym, ◌∙◌}
use Rattle.extent_groups.specs.Cells.{cells}
use Rattle.unit_store.specs.Shows.{ShowsUnits}
use Rattle.unit_store.specs.Views.{DriveView, PartsView, drive_lost, drive_units, failed_of, lost_of}
use Rattle.flat_machine.specs.Flat.{Flat}
use Rattle.flat_machine.proofs.Keeps.{fared}
use Rattle.slot_tables.specs.Represents.{Represents}
use Rattle.slot_tables.specs.Views.{ArrayView, WorldView, key_at, with_parts}
use Rattle.tiered_array.specs.Matches.{RepresentsTiers}
use Rattle.tiered_array.specs.Tiered.{Tiered}
use Rattle.tiered_array.specs.Views.{TiersView}
use Rattle.array_store.specs.Blocks.{Holds}
use Rattle.journaled_store.specs.Left.{HasBoth, HasKeys}
use Rattle.journaled_store.specs.Outlasting.{parts_of}

-- with other drives
abbrev pub parts_with : TiersView → List DriveView → PartsView
parts_with t views = record (parts_of t) { drives = views }

abbrev array_with : TiersView → List DriveView → ArrayView
array_with t views = with_parts t.world.array (parts_with t views)

abbrev world_with : TiersView → List DriveView → WorldView
world_with t views = record t.world { array = array_with t views }

abbrev pub with_drives : TiersView → List DriveView → TiersView
with_drives t views = record t { world = world_with t views }

-- the state with the losses of these drives
abbrev flat_with : TiersView → List DriveView → Flat → Flat
flat_with t views F = record F { lost = lost_of (parts_with t views); failures = failed_of (parts_with t views) }

abbrev state_with : TiersView → List DriveView → Tiered → Tiered
state_with t views T = record T { flat = flat_with t views T.flat }

-- these drives show the units of each state that the array represents
abbrev pub ShowToo : TiersView → List DriveView → Type 0
ShowToo t views = (T : Tiered) → RepresentsTiers t T → ShowsUnits (parts_of t).groups (cells drive_units drive_lost views) T.flat.units

module _ (t : TiersView) (views : List DriveView) (many : length views ≡ length (parts_of t).drives) where
  world_shows : (F : Flat) → Represents t.world F → ShowsUnits (parts_of t).groups (cells drive_units drive_lost views) F.units → Represents (world_with t views) (flat_with t views F)
  world_shows F is units = record {
    array = record {
      history = fared F (lost_of (parts_with t views)) (failed_of (parts_with t views)) (key_at t.world.array) is.array.history;
      units = units;
      tables = record {
        groups = is.array.tables.groups;
        drives = is.array.tables.drives ∙ sym many;
        lost = refl;
        failures = refl;
        log = is.array.tables.log;
        slots = is.array.tables.slots;
      };
    };
    held = record { once = is.held.once; inside = is.held.inside };
    hands = is.hands;
  }

  pub tiers_show : (T : Tiered) → RepresentsTiers t T → ShowsUnits (parts_of t).groups (cells drive_units drive_lost views) T.flat.units → RepresentsTiers (with_drives t views) (state_with t views T)
  tiers_show T is units = record {
    world = world_shows T.flat is.world units;
    order = is.order;
    long = is.long;
    each = is.each;
    end = is.end;
    marked = is.marked;
    marks = is.marks;
    hints = is.hints;
    holes = is.holes;
  }

  pub holds_with : (bytes : List ℕ) → ShowToo t views → Holds t bytes → Holds (with_drives t views) bytes
  holds_with bytes show is = record {
    state = state_with t views is.state;
    matches = tiers_show is.state is.matches (show is.state is.matches);
    shows = record { each = is.shows.each };
  }

  pub keys_with : (keys : List ℕ) → ShowToo t views → HasKeys t keys → HasKeys (with_drives t views) keys
  keys_with keys show is = record {
    state = state_with t views is.state;
    matches = tiers_show is.state is.matches (show is.state is.matches);
    keys_are = is.keys_are;
  }

-- what is shown stays with other drives that show the same units
abbrev pub KeepsShown : {X : Type 0} → (TiersView → X → Type 0) → Type 0
KeepsShown {X} shows = (t : TiersView) (views : List DriveView) (what : X) → length views ≡ length (parts_of t).drives → ShowToo t views → shows t what → shows (with_drives t views) what

pub holds_keep : KeepsShown Holds
holds_keep t views what many show is = holds_with t views many what show is

pub keys_keep : KeepsShown HasKeys
keys_keep t views what many show is = keys_with t views many what show is

pub both_keep : KeepsShown HasBoth
both_keep t views what many show is = record { holds = holds_with t views many what.bytes show is.holds; keys_are = is.keys_are }
