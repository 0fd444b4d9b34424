-- A flat state, and what is kept next to it for the plans: stated over blocks and slots alone.
use Rattle.std.specs.Prelude.{ℕ, List}
use Rattle.flat_machine.specs.Flat.{Flat}
use Rattle.migrator.specs.Ages.{by_number}
use Rattle.migrator.specs.Slots.{End, at_start}

-- the flat state, the order of last writes since the array was made or restarted, and where the write log goes on
pub record Tiered : Type 0 where
  pub flat : Flat
  pub order : List ℕ
  pub end : End

-- the state of an array where no write is noted, and nothing was appended
abbrev pub begun : Flat → Tiered
begun F = record { flat = F; order = by_number F.groups.blocks; end = at_start }
