-- What drives show of the flat state's units.
use Rattle.std.specs.Prelude.{◌≡◌, ℕ, Option, Some, List, take, drop}
use Rattle.extents.specs.Header.{Spells}
use Rattle.extents.specs.declared.shape.TheConstants.{HEADER_BYTES}
use Rattle.extent_groups.specs.Groups.{Groups}
use Rattle.extent_groups.specs.Cells.{Cells}
use Rattle.extent_groups.specs.Stores.{unit_of, AreSound}
use Rattle.flat_machine.specs.Flat.{Stored}

-- the bytes are those of a unit: the first 32 spell its header, and the rest is its payload
abbrev pub IsUnit : List ℕ → Stored → Type 0
IsUnit bytes u = Spells (take HEADER_BYTES bytes) u.header × (drop HEADER_BYTES bytes ≡ u.payload)

-- the drives show these units: every slot is sound, and each effective unit that exists is that of its slot
pub record ShowsUnits (groups : Groups) (c : Cells) (units : ℕ → Option Stored) : Type 0 where
  pub sound : AreSound groups c
  pub shown : (slot : ℕ) (bytes : List ℕ) → unit_of groups c slot ≡ Some bytes → (u : Stored) × (units slot ≡ Some u) × IsUnit bytes u
