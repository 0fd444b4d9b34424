-- How the table keeps the owners: a row for each drive.
use Rattle.std.specs.Prelude.{◌≡◌, ℕ, ◌≤◌, List, length, map, All}
use Rattle.extents.specs.Owners.{Owners}
use Rattle.extents.specs.declared.table.Row.{Row}

-- the owners that the rows hold
abbrev pub owners_in : ℕ → List Row → Owners
owners_in extents rows = record { extents = extents; rows = map (λ row. row.owners.items) rows }

-- each row has as many extents as the table says, at most 65,536: extent numbers have two bytes
pub record AreRows (extents : ℕ) (rows : List Row) : Type 0 where
  pub wide : All (λ row. length row.owners.items ≡ extents) rows
  pub small : extents ≤ 65536
