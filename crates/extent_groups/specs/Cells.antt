-- What the drives hold, as one function from drive and address to a unit; a lost drive holds none.
use Rattle.std.specs.Prelude.{ℕ, Bool, Option, Some, None, List, take, option_map, slice_get, if◌then◌else◌}
use Rattle.extents.specs.Units.{fronts}
use Rattle.extent_groups.specs.declared.place.Place.{Place}

-- a unit, or none, for each drive and address
abbrev pub Cells : Type 0
Cells = ℕ → ℕ → Option (List ℕ)

-- the unit at an address of an optional drive: none where the drive is lost or isn't there
abbrev pub cell : {D : Type 0} → (D → List (List ℕ)) → (D → Bool) → Option D → ℕ → Option (List ℕ)
cell units lost None at = None
cell units lost (Some drive) at = if lost drive then None else slice_get (units drive) at

-- what the drives hold
abbrev pub cells : {D : Type 0} → (D → List (List ℕ)) → (D → Bool) → List D → Cells
cells units lost drives drive at = cell units lost (slice_get drives drive) at

-- what a place holds
abbrev pub held : Cells → Place → Option (List ℕ)
held c p = c p.drive p.address

-- the first `count` bytes of an optional unit
abbrev pub front : ℕ → Option (List ℕ) → Option (List ℕ)
front count unit = option_map (take count) unit

-- a drive's units, only the first `count` bytes of each
abbrev pub front_units : {D : Type 0} → ℕ → (D → List (List ℕ)) → D → List (List ℕ)
front_units count units drive = fronts count (units drive)
