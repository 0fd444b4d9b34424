-- Which slots are newest places of blocks.
use Rattle.std.specs.Prelude.{◌≡◌, ℕ, ◌/◌, ◌%◌, ◌<◌, Option, Some, None}
use Rattle.map_join.specs.declared.records.Record.{Record}
use Rattle.map_join.specs.Record.{record_at}
use Rattle.map_join.specs.Lists.{IsCount}

-- the newest record of a block has the slot as its place
abbrev pub MapsTo : (ℕ → ℕ) → ℕ → ℕ → Type 0
MapsTo keys block slot = (r : Record) × (record_at block (keys block) ≡ Some r) × (r.place ≡ slot)

-- the slot is the newest place of some block
abbrev pub IsLive : (ℕ → ℕ) → ℕ → Type 0
IsLive keys slot = (block : ℕ) × MapsTo keys block slot

-- a block that lies at the slot, or none where none does
abbrev pub IsBlockAt : (ℕ → ℕ) → ℕ → Option ℕ → Type 0
IsBlockAt keys slot None = IsLive keys slot → ⊥
IsBlockAt keys slot (Some block) = MapsTo keys block slot

-- one of the first `slots` slots of a group, and live
pub record IsLiveIn (keys : ℕ → ℕ) (group slots slot : ℕ) : Type 0 where
  pub own : slot / 128 ≡ group
  pub among : slot % 128 < slots
  pub live : IsLive keys slot

-- exactly `count` of the first `slots` slots of a group are live
abbrev pub IsLiveCount : (ℕ → ℕ) → ℕ → ℕ → ℕ → Type 0
IsLiveCount keys group slots count = IsCount (IsLiveIn keys group slots) count
