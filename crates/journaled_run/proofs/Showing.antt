-- Each state shows bytes and a block map.
use Rattle.std.proofs.Common.{ℕ, ◌/◌, ◌%◌, map, ap, arith}
use Rattle.std.specs.Prelude.{slice_index}
use Rattle.std.proofs.lemmas.List.FromFn.{get_or-map-range_with_len, length-map-range_with_len}
use Rattle.std.specs.List.{range_with_len}
use Rattle.slot_tables.specs.Views.{key_at}
use Rattle.flat_machine.proofs.Newest.{same_map}
use Rattle.tiered_array.specs.Matches.{RepresentsTiers}
use Rattle.tiered_array.specs.Tiered.{Tiered}
use Rattle.tiered_array.specs.Views.{TiersView}
use Rattle.byte_store.specs.Lasting.{Shown}
use Rattle.array_store.specs.Blocks.{block_bytes}
use Rattle.journaled_store.specs.Left.{HasBoth}
use Rattle.journaled_run.specs.Showing.{IsShownIn}

pub both_of : (size : ℕ) (tiers : TiersView) (U : Tiered) (what : Shown) → RepresentsTiers tiers U → IsShownIn size U.flat what → HasBoth tiers what
both_of size tiers U what matches is = record {
  holds = record { state = U; matches = matches; shows = is.bytes };
  keys_are = λ block. ap (λ f. f block) (same_map U.flat.emitted (slice_index what.keys) (key_at tiers.world.array) is.map matches.world.array.history.map);
}

-- a byte of the last writes
byte_at : Tiered → ℕ → ℕ
byte_at U i = slice_index (block_bytes U.flat.groups.payload U.flat.writes (i / U.flat.groups.payload)) (i % U.flat.groups.payload)

pub shown_now : (size : ℕ) (tiers : TiersView) (U : Tiered) → RepresentsTiers tiers U → (what : Shown) × IsShownIn size U.flat what
unfolding byte_at
shown_now size tiers U matches = (
  record { bytes = map (byte_at U) (range_with_len 0 size); keys = tiers.world.array.keys },
  record {
    bytes = record {
      each = λ i low. get_or-map-range_with_len (byte_at U) 0 size i i 0 (let long = length-map-range_with_len (byte_at U) 0 size in omega (arith, low, long)) (omega arith);
    };
    long = length-map-range_with_len (byte_at U) 0 size;
    map = matches.world.array.history.map;
  },
)
