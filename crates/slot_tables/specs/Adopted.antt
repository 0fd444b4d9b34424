-- An array that was put together from parts and a map, and the flat states that the parts agree with.
use Rattle.std.specs.Prelude.{◌≡◌, ℕ, ◌<◌, length}
use Rattle.map_join.specs.Record.{record_of}
use Rattle.map_join.specs.Maps.{IsSame, IsListOf}
use Rattle.unit_store.specs.Views.{PartsView, Shows, lost_of, failed_of}
use Rattle.flat_machine.specs.Flat.{Flat}
use Rattle.slot_tables.specs.Views.{Kept, Nothing, Pending, Moving, Newest, Unmade, ArrayView, kept_at, key_at}

-- what is kept of a slot by a map: the block whose place it is, if it is one's
abbrev pub IsKeptByMap : (ℕ → ℕ) → ℕ → Kept → Type 0
IsKeptByMap keys slot Unmade = ⊥
IsKeptByMap keys slot Nothing = (b : ℕ) → 0 < keys b → (record_of b (keys b)).place ≡ slot → ⊥
IsKeptByMap keys slot (Newest b) = (0 < keys b) × ((record_of b (keys b)).place ≡ slot)
IsKeptByMap keys slot (Pending k) = ⊥
IsKeptByMap keys slot (Moving r k) = ⊥

-- an array of these parts with this map: the map's list is its log, it keeps the newest places, and nothing is pending
pub record IsAdopted (v : PartsView) (keys : ℕ → ℕ) (a : ArrayView) : Type 0 where
  pub parts_are : a.parts ≡ v
  pub log : IsListOf keys a.log
  pub keys_are : IsSame (key_at a) keys
  pub kept : (s : ℕ) → IsKeptByMap keys s (kept_at a s)

-- the parts are a flat state's: its groups, its drives as they fare, and units that they show
pub record HasParts (v : PartsView) (F : Flat) : Type 0 where
  pub groups : F.groups ≡ v.groups
  pub drives : F.drives ≡ length v.drives
  pub lost : F.lost ≡ lost_of v
  pub failures : F.failures ≡ failed_of v
  pub units : Shows v F.units
