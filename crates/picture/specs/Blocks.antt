-- The block that is live in each slot, as a table.
use Rattle.std.specs.Prelude.{◌≡◌, ◌≢◌, ℕ, ◌<◌, Option, Some, None, List, length, slice_get, unwrap_or}
use Rattle.map_join.specs.declared.records.Record.{Record}
use Rattle.map_join.specs.Live.{IsBlockAt}

-- the block that a table has in a slot, none past its end
abbrev pub block_in : List (Option ℕ) → ℕ → Option ℕ
block_in blocks slot = unwrap_or (slice_get blocks slot) None

-- the table of a map: in each slot the block whose newest record has the slot as its place, none where no newest record has
pub record AreBlocksOf (keys : ℕ → ℕ) (blocks : List (Option ℕ)) : Type 0 where
  pub many : length blocks ≡ 65536
  pub each : (slot : ℕ) → slot < 65536 → IsBlockAt keys slot (block_in blocks slot)

-- the block of one of the records whose place is the slot, none where that is no place of the first `bound` records
abbrev pub IsMappedBlock : List Record → ℕ → ℕ → Option ℕ → Type 0
IsMappedBlock records bound slot None = (k : ℕ) (r : Record) → k < bound → slice_get records k ≡ Some r → r.place ≢ slot
IsMappedBlock records bound slot (Some block) = (k : ℕ) × (r : Record) × (slice_get records k ≡ Some r) × (r.block ≡ block) × (r.place ≡ slot)
