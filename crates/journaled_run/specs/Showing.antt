-- What a flat state shows on a disk.
use Rattle.std.specs.Prelude.{◌≡◌, ℕ, length, slice_index}
use Rattle.map_join.specs.Maps.{IsMapOf}
use Rattle.flat_machine.specs.Flat.{Flat}
use Rattle.byte_store.specs.Lasting.{Shown}
use Rattle.array_store.specs.Blocks.{SpansBlocks}

-- the bytes of the last writes, as many as the disk has, and the map of exactly the emitted records
pub record IsShownIn (size : ℕ) (F : Flat) (what : Shown) : Type 0 where
  pub bytes : SpansBlocks F.groups.payload F.writes what.bytes
  pub long : length what.bytes ≡ size
  pub map : IsMapOf F.emitted (slice_index what.keys)
