-- The bytes of a disk, by the last writes of an array's blocks.
use Rattle.std.specs.Prelude.{◌≡◌, ◌≢◌, ℕ, ◌+◌, ◌/◌, ◌%◌, ◌<◌, List, length, replicate, slice_index, Option, Some, None}
use Rattle.flat_machine.specs.Flat.{Write, bytes_of, last_write}
use Rattle.tiered_array.specs.Matches.{RepresentsTiers}
use Rattle.tiered_array.specs.Tiered.{Tiered}
use Rattle.tiered_array.specs.Views.{TiersView}

-- the bytes that a write leaves in a block: zeros where there is none, or it is a trim
abbrev pub bytes_in : ℕ → Option Write → List ℕ
bytes_in size None = replicate size 0
bytes_in size (Some w) = bytes_of size w.content

-- the bytes of a block: those of its last write
abbrev pub block_bytes : ℕ → List Write → ℕ → List ℕ
block_bytes size writes b = bytes_in size (last_write writes b)

-- the bytes lie in the blocks one after another, from the first block on
pub record SpansBlocks (size : ℕ) (writes : List Write) (bytes : List ℕ) : Type 0 where
  pub each : (i : ℕ) → i < length bytes → slice_index bytes i ≡ slice_index (block_bytes size writes (i / size)) (i % size)

-- an array with what is kept next to it represents a flat state that shows these bytes
pub record Holds (tiers : TiersView) (bytes : List ℕ) : Type 0 where
  pub state : Tiered
  pub matches : RepresentsTiers tiers state
  pub shows : SpansBlocks state.flat.groups.payload state.flat.writes bytes

-- the bytes of a block, of `size` bytes, as far as it has any of the disk's
pub record IsBlockOf (size : ℕ) (bytes : List ℕ) (b : ℕ) (out : List ℕ) : Type 0 where
  pub each : (i : ℕ) → i < length bytes → i / size ≡ b → slice_index out (i % size) ≡ slice_index bytes i

-- one block has other bytes
pub record IsPut (size : ℕ) (old : List ℕ) (b : ℕ) (block new : List ℕ) : Type 0 where
  pub long : length new ≡ length old
  pub here : (i : ℕ) → i < length old → i / size ≡ b → slice_index new i ≡ slice_index block (i % size)
  pub others : (i : ℕ) → i < length old → i / size ≢ b → slice_index new i ≡ slice_index old i

-- a piece of the disk's bytes, from an offset on
pub record IsPiece (bytes : List ℕ) (offset : ℕ) (out : List ℕ) : Type 0 where
  pub each : (k : ℕ) → k < length out → slice_index out k ≡ slice_index bytes (offset + k)
