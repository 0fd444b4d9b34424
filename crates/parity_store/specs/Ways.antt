-- The ways of a write: unit and parity by difference, the unit alone, the parity alone; and the exclusive or of the other
-- members.
use Rattle.std.specs.Prelude.{◌≡◌, ◌≢◌, ℕ, ◌/◌, ◌<◌, ◌≤◌, ◌⊎◌, Option, Some, None, List, length, slice_get, replicate}
use Rattle.extents.specs.Sizes.{extent_units}
use Rattle.extent_groups.specs.declared.place.Place.{Place}
use Rattle.extent_groups.specs.Groups.{Groups, members_of}
use Rattle.extent_groups.specs.Geometry.{parity_of}
use Rattle.extent_groups.specs.Cells.{Cells, held}
use Rattle.extent_groups.specs.Units.{InStripe, plus, add, put, xor_total, row_of, unit_at, places_of}
use Rattle.extent_groups.specs.Calls.{AreSized, HaveFronts, FadesAt, IsPlace}
use Rattle.extent_groups.specs.Stores.{unit_bytes}

-- the places at an offset of all members
abbrev pub row_at : Groups → ℕ → ℕ → List Place
row_at groups group offset = places_of groups.segments (members_of groups group) offset

-- the parity unit at an offset of a group: what its member holds, or where that is lost the exclusive or of all the others
abbrev pub parity_unit : Groups → Cells → ℕ → ℕ → Option (List ℕ)
parity_unit groups c group offset =
    let parity = parity_of (length (members_of groups group)) (offset / 2) in
    unit_at (unit_bytes groups) c (InStripe (row_at groups group offset) parity parity)

-- each place of a row is one of the drives'
abbrev pub IsRow : {D : Type 0} → (D → List (List ℕ)) → List D → List Place → Type 0
IsRow units drives row = (k : ℕ) (x : Place) → slice_get row k ≡ Some x → IsPlace units drives x

-- a stripe at an offset of a group can be read and written: the group has at most 8 members, their extents have that offset, and
-- its places are those of drives whose units have this size
pub record IsLaid {D : Type 0} (units : D → List (List ℕ)) (groups : Groups) (group offset bytes : ℕ) (drives : List D) : Type 0 where
  pub few : length (members_of groups group) ≤ 8
  pub low : offset < extent_units groups.segments
  pub row : IsRow units drives (row_at groups group offset)
  pub size : AreSized units bytes drives

-- the first `count` bytes of the units at an offset of a group can be read: it has at most 8 members, their extents have that
-- offset, and its places are those of drives whose units have at least `count` bytes
pub record IsReadableRow {D : Type 0} (units : D → List (List ℕ)) (groups : Groups) (group offset count : ℕ) (drives : List D) : Type 0 where
  pub few : length (members_of groups group) ≤ 8
  pub low : offset < extent_units groups.segments
  pub row : IsRow units drives (row_at groups group offset)
  pub fronts : HaveFronts units count drives

-- a row in which two members count as zeros
abbrev pub bare : ℕ → (ℕ → Option (List ℕ)) → ℕ → ℕ → ℕ → Option (List ℕ)
bare bytes row i p = put (put row i (Some (replicate bytes 0))) p (Some (replicate bytes 0))

-- the units of all members of the row but two were added to the sum, and every place holds what it held
pub record Added (bytes : ℕ) (c new : Cells) (row : List Place) (i p : ℕ) (before after : List ℕ) : Type 0 where
  pub same : (x : Place) → held new x ≡ held c x
  pub sum : add (Some before) (xor_total bytes (length row) (bare bytes (row_of c row) i p)) ≡ Some after

-- member k's unit was added to the sum, unless k is one of the two, and every place holds what it held
pub record AddedOne (bytes : ℕ) (c new : Cells) (row : List Place) (i p k : ℕ) (before after : List ℕ) : Type 0 where
  pub same : (x : Place) → held new x ≡ held c x
  pub sum : add (Some before) (bare bytes (row_of c row) i p k) ≡ Some after

-- another member than these two is lost
pub record Missed (c new : Cells) (row : List Place) (i p : ℕ) : Type 0 where
  pub fades : (x : Place) → FadesAt c new x
  pub missing : (k : ℕ) × (k < length row) × (k ≢ i) × (k ≢ p) × (row_of new row k ≡ None)

-- the parity holds the exclusive or of its old unit, the old and the new data
abbrev pub IsParityDelta : Cells → Cells → Place → Place → List ℕ → Type 0
IsParityDelta c new home parity unit =
    (d : List ℕ) × (q : List ℕ) × (held c home ≡ Some d) × (held c parity ≡ Some q) × (held new parity ≡ Some (plus (plus q d) unit))

-- the unit is written, and the parity by difference, or the parity's drive is lost
pub record Differs (c new : Cells) (home parity : Place) (unit : List ℕ) : Type 0 where
  pub here : held new home ≡ Some unit
  pub there : (held new parity ≡ None) ⊎ IsParityDelta c new home parity unit
  pub nearby : (x : Place) → x ≢ home → x ≢ parity → FadesAt c new x
  pub elsewhere : (x : Place) → x.drive ≢ home.drive → x.drive ≢ parity.drive → held new x ≡ held c x

-- the parity, member p, holds the exclusive or of the unit and all members but it and member i, which were read; other drives
-- hold what they held
pub record ParityWritten (bytes : ℕ) (c new : Cells) (row : List Place) (i p : ℕ) (unit : List ℕ) : Type 0 where
  pub there : (rest : List ℕ) × (xor_total bytes (length row) (bare bytes (row_of c row) i p) ≡ Some rest) × (row_of new row p ≡ Some (plus unit rest))
  pub nearby : (x : Place) → (slice_get row p ≡ Some x → ⊥) → FadesAt c new x
  pub elsewhere : (x y : Place) → slice_get row p ≡ Some y → x.drive ≢ y.drive → held new x ≡ held c x
