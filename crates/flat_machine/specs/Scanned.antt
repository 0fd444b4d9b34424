-- The map that the headers of units have, as one sentence over slots.
use Rattle.std.specs.Prelude.{◌≡◌, ℕ, ◌<◌, ◌≤◌, Option, Some, List, take}
use Rattle.map_join.specs.declared.records.Record.{Record}
use Rattle.map_join.specs.Record.{key_of}
use Rattle.extents.specs.declared.header.Header.{Header}
use Rattle.extents.specs.declared.shape.TheConstants.{HEADER_BYTES}
use Rattle.extents.specs.Header.{Spells, record_in}

-- the unit of the slot is there, and its first 32 bytes spell a header with this record
abbrev pub HasHeader : (ℕ → Option (List ℕ)) → ℕ → Record → Type 0
HasHeader bytes slot r = (unit : List ℕ) × (bytes slot ≡ Some unit) × ((h : Header) × Spells (take HEADER_BYTES unit) h × (record_in h ≡ Some r))

-- the keys are those of the headers of units, given by slot: each key is that of a header of its block, and no header of the
-- block has a greater one
pub record IsScanned (bytes : ℕ → Option (List ℕ)) (keys : ℕ → ℕ) : Type 0 where
  pub found : (block : ℕ) → 0 < keys block → (slot : ℕ) × (r : Record) × HasHeader bytes slot r × (r.block ≡ block) × (key_of r ≡ keys block)
  pub most : (slot : ℕ) (r : Record) → HasHeader bytes slot r → key_of r ≤ keys r.block
