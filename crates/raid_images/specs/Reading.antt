-- When slots can be read.
use Rattle.std.specs.Prelude.{◌≡◌, ◌*◌, length}
use Rattle.extent_groups.specs.Stores.{unit_bytes}
use Rattle.unit_store.specs.Fit.{IsFit}
use Rattle.unit_store.specs.Memory.{held_units}
use Rattle.raid_images.specs.declared.slots.Reader.{Reader}

-- the parts fit one another, and the buffer is as long as two units
pub record CanRead (reader : Reader) : Type 0 where
  pub fit : IsFit held_units reader.parts
  pub room : length reader.scratch.items ≡ 2 * unit_bytes reader.parts.groups
