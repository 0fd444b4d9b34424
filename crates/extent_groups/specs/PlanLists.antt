-- A plan as a call lists it.
use Rattle.std.specs.Prelude.{ℕ, Option, List, map, option_map, Vec}
use Rattle.std.specs.Global.{Global}
use Rattle.extent_groups.specs.Planned.{Intended}

-- a drive, an address and a unit as a write
abbrev pub as_expected : (ℕ × ℕ × Vec ℕ Global) → Intended
as_expected w = record { place = record { drive = w.0; address = w.1 }; unit = w.2.items }

abbrev pub listed : List (ℕ × ℕ × Vec ℕ Global) → List Intended
listed writes = map as_expected writes

-- the parity's unit of a plan
abbrev pub parity_listed : Option (Vec ℕ Global) → Option (List ℕ)
parity_listed parity = option_map (λ v. v.items) parity
