-- An array with a shortened log.
use Rattle.std.proofs.Common.{◌≡◌, ℕ, List, Some, refl, sym, subst}
use Rattle.map_join.specs.declared.records.Record.{Record}
use Rattle.map_join.specs.Record.{record_at}
use Rattle.map_join.specs.Maps.{IsListOf, IsSame}
use Rattle.flat_machine.specs.Flat.{Flat}
use Rattle.flat_machine.specs.Shortened.{IsShortened}
use Rattle.flat_machine.proofs.Shortening.{shortened_history}
use Rattle.slot_tables.specs.Represents.{ShowsArray}
use Rattle.slot_tables.specs.Views.{ArrayView, key_at}

-- the list of a map is that of a map with the same keys
pub list_as : (M N : ℕ → ℕ) (records : List Record) → IsSame M N → IsListOf M records → IsListOf N records
list_as M N records same list = record {
  rising = list.rising;
  each = λ r. (
    λ has. subst (λ k. record_at r.block k ≡ Some r) (same r.block) ((list.each r).0 has),
    λ is. (list.each r).1 (subst (λ k. record_at r.block k ≡ Some r) (sym (same r.block)) is),
  );
}

pub shortened_shows : (a : ArrayView) (F : Flat) (records : List Record) → IsListOf (key_at a) records → ShowsArray a F
    → (G : Flat) × IsShortened F G × ShowsArray (record a { log = records }) G
shortened_shows a F records list shows = (
  record F { emitted = records },
  record { keys = key_at a; map_of = shows.history.map; log = list; is = refl },
  record {
    history = shortened_history F (key_at a) records shows.history list;
    units = shows.units;
    tables = record {
      groups = shows.tables.groups;
      drives = shows.tables.drives;
      lost = shows.tables.lost;
      failures = shows.tables.failures;
      log = refl;
      slots = λ s. let is = shows.tables.slots s in record { blocks = is.blocks; shut = is.shut; waits = is.waits };
    };
  },
)
