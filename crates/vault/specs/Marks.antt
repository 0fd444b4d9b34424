-- A set of places, as a mark for each drive and the table at each address.
use Rattle.std.specs.Prelude.{◌≡◌, ◌↔◌, ◌≤◌, ◌+◌, ◌*◌, ℕ, Bool, true, Some, List, slice_get}
use Rattle.extent_groups.specs.declared.place.Place.{Place}
use Rattle.extent_groups.specs.Planned.{Intended}
use Rattle.vault.specs.Moments.{IsWrittenTo}

-- where the mark of a place lies
abbrev pub spot : Place → ℕ
spot x = x.address * 17 + x.drive

-- a place is in the set
abbrev pub Has : List Bool → Place → Type 0
Has marks x = (x.drive ≤ 16) × (slice_get marks (spot x) ≡ Some true)

-- the set has exactly the places of some writes
abbrev pub HasPlaces : List Bool → List Intended → Type 0
HasPlaces marks writes = (x : Place) → Has marks x ↔ IsWrittenTo writes x
