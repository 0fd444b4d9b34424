-- Writes of units that are planned, and what the drives hold after some of them.
use Rattle.std.specs.Prelude.{◌≡◌, ◌≢◌, ℕ, ◌==◌, ◌&&◌, ◌⊎◌, if◌then◌else◌, Option, Some, None, List, [], ◌∷◌, length, slice_get, Contains}
use Rattle.extent_groups.specs.declared.place.Place.{Place}
use Rattle.extent_groups.specs.Groups.{Groups}
use Rattle.extent_groups.specs.Cells.{Cells, held}
use Rattle.extent_groups.specs.Calls.{FadesAt}
use Rattle.extent_groups.specs.Units.{Site, Pair, InStripe, site_of}
use Rattle.extent_groups.specs.Stores.{unit_bytes, IsOwnOf, WroteSlot}

-- a unit for a place
pub record Intended : Type 0 where
  pub place : Place
  pub unit : List ℕ

-- an optional unit, replaced by another if it is there: a write to a lost drive is skipped
abbrev pub over : Option (List ℕ) → List ℕ → Option (List ℕ)
over None unit = None
over (Some old) unit = Some unit

-- what the drives hold after one write, and after a list of them in their order
abbrev pub with_unit : Cells → Intended → Cells
with_unit c w drive at = if (drive == w.place.drive) && (at == w.place.address) then over (c drive at) w.unit else c drive at

abbrev pub after : Cells → List Intended → Cells
after c [] = c
after c (w ∷ ws) = after (with_unit c w) ws

-- no place is written twice
abbrev pub AreOnce : List Intended → Type 0
AreOnce [] = Unit {0}
AreOnce (w ∷ ws) = ((v : Intended) → Contains ws v → v.place ≢ w.place) × AreOnce ws

-- the writes that give a slot a unit: each of the slot's places whose drive isn't lost gets what is wanted for it, and no other
-- place is written; all of them together write the slot
pub record IsWritePlan (groups : Groups) (c : Cells) (slot : ℕ) (unit : List ℕ) (expected : Place → List ℕ) (writes : List Intended) : Type 0 where
  pub once : AreOnce writes
  pub own : (w : Intended) → Contains writes w → IsOwnOf groups slot w.place × (w.unit ≡ expected w.place)
  pub all : (x : Place) → IsOwnOf groups slot x → held (after c writes) x ≡ over (held c x) (expected x)
  pub wrote : WroteSlot groups c (after c writes) slot unit

-- the slot's places whose drives weren't lost got what is wanted for them, and drives may have been lost
pub record IsFinished (groups : Groups) (c new : Cells) (slot : ℕ) (expected : Place → List ℕ) : Type 0 where
  pub own : (x : Place) → IsOwnOf groups slot x → (held new x ≡ over (held c x) (expected x)) ⊎ (held new x ≡ None)
  pub others : (x : Place) → (IsOwnOf groups slot x → ⊥) → FadesAt c new x

-- a place before others, if it is one
abbrev pub before : Option Place → List Place → List Place
before None places = places
before (Some x) places = x ∷ places

-- the places that a write of a site writes, in order: the first copy before the second, the member's unit before the parity's
abbrev pub own_places : Site → List Place
own_places (Pair p q) = p ∷ q ∷ []
own_places (InStripe row parity i) = before (slice_get row i) (before (slice_get row parity) [])

-- the places that a write of an optional site writes; none where there is no site
abbrev pub places_in : Option Site → List Place
places_in None = []
places_in (Some site) = own_places site

-- a write before others, where its place holds a unit
abbrev pub if_held : Option (List ℕ) → Intended → List Intended → List Intended
if_held None w ws = ws
if_held (Some old) w ws = w ∷ ws

-- what is wanted of those of the places that hold a unit, in the order of the places
abbrev pub present : Cells → (Place → List ℕ) → List Place → List Intended
present c expected [] = []
present c expected (x ∷ xs) = if_held (held c x) (record { place = x; unit = expected x }) (present c expected xs)

-- the writes are those of exactly the slot's places that hold a unit: the first copy before the second, the data before the
-- parity
abbrev pub IsListed : Groups → Cells → ℕ → (Place → List ℕ) → List Intended → Type 0
IsListed groups c slot expected writes = writes ≡ present c expected (places_in (site_of groups slot))

-- what is wanted of an optional place, where it holds a unit
abbrev pub expected_in : Cells → (Place → List ℕ) → Option Place → Option (List ℕ)
expected_in c expected None = None
expected_in c expected (Some x) = over (held c x) (expected x)

-- what is wanted of the parity's place, where the site has one and it holds a unit
abbrev pub expected_parity : Cells → (Place → List ℕ) → Option Site → Option (List ℕ)
expected_parity c expected (Some (InStripe row parity i)) = expected_in c expected (slice_get row parity)
expected_parity c expected _ = None

-- the plan of a slot's unit: planned writes in their order, each of a unit's size
pub record IsPlan (groups : Groups) (c : Cells) (slot : ℕ) (unit : List ℕ) (expected : Place → List ℕ) (writes : List Intended) : Type 0 where
  pub sized : (x : Place) → length (expected x) ≡ unit_bytes groups
  pub planned : IsWritePlan groups c slot unit expected writes
  pub listed : IsListed groups c slot expected writes

-- a slot was written by a plan: worked out of what the drives held after reads, and carried out, but for losses
pub record WroteByPlan (groups : Groups) (c new : Cells) (slot : ℕ) (unit : List ℕ) : Type 0 where
  pub mid : Cells
  pub expected : Place → List ℕ
  pub writes : List Intended
  pub read : (x : Place) → FadesAt c mid x
  pub plan : IsPlan groups mid slot unit expected writes
  pub written : (x : Place) → FadesAt (after mid writes) new x
