-- One call of a drive, and what any number of them leaves: every unit that is still there is what it was or what was written.
use Rattle.std.specs.Prelude.{◌≡◌, ◌≢◌, ℕ, ◌<◌, ◌⊎◌, Bool, true, Option, Some, None, List, length, slice_get, if◌then◌else◌}
use Rattle.extents.specs.Failures.{Failures, CountsFailure, StaysSteady}
use Rattle.extents.specs.Units.{AreUnitsSized, HaveFront, HasUnitBuffer}
use Rattle.extent_groups.specs.declared.place.Place.{Place}
use Rattle.extent_groups.specs.Cells.{Cells, held}

-- every unit of every drive has `bytes` bytes
abbrev pub AreSized : {D : Type 0} → (D → List (List ℕ)) → ℕ → List D → Type 0
AreSized {D} units bytes drives = (d : ℕ) (x : D) → slice_get drives d ≡ Some x → AreUnitsSized bytes (units x)

-- every unit of every drive has at least `count` bytes
abbrev pub HaveFronts : {D : Type 0} → (D → List (List ℕ)) → ℕ → List D → Type 0
HaveFronts {D} units count drives = (d : ℕ) (x : D) → slice_get drives d ≡ Some x → HaveFront count (units x)

-- the first bytes of a unit can be read with a buffer of this length, on every drive
abbrev pub HaveRoom : {D : Type 0} → (D → List (List ℕ)) → (count scratch : ℕ) → List D → Type 0
HaveRoom {D} units count scratch drives = (d : ℕ) (x : D) → slice_get drives d ≡ Some x → HasUnitBuffer count scratch (units x)

-- the place is one of the drives'
pub record IsPlace {D : Type 0} (units : D → List (List ℕ)) (drives : List D) (p : Place) : Type 0 where
  pub inside : p.drive < length drives
  pub low : (x : D) → slice_get drives p.drive ≡ Some x → p.address < length (units x)

-- an optional unit is what it was, or lost
abbrev pub Fades : Option (List ℕ) → Option (List ℕ) → Type 0
Fades old new = (new ≡ old) ⊎ (new ≡ None)

-- what a place holds is what it held, or its drive is lost
abbrev pub FadesAt : Cells → Cells → Place → Type 0
FadesAt c new p = Fades (held c p) (held new p)

-- the unit, where the call was Ok
abbrev pub if_ok : Bool → List ℕ → Option (List ℕ)
if_ok ok unit = if ok then Some unit else None

-- a read of a place: it gave what the place holds, or its drive is lost; other drives hold what they held
pub record DidRead (c new : Cells) (p : Place) (unit : List ℕ) (ok : Bool) : Type 0 where
  pub here : held new p ≡ if_ok ok unit
  pub same : ok ≡ true → (x : Place) → held new x ≡ held c x
  pub fades : (x : Place) → FadesAt c new x
  pub elsewhere : (x : Place) → x.drive ≢ p.drive → held new x ≡ held c x

-- a write of a place: it holds the unit, or its drive is lost; every other place of the drive holds what it held, unless the
-- drive is lost; other drives hold what they held
pub record DidWrite (c new : Cells) (p : Place) (unit : List ℕ) (ok : Bool) : Type 0 where
  pub here : held new p ≡ if_ok ok unit
  pub was : ok ≡ true → held c p ≡ None → ⊥
  pub nearby : (x : Place) → x ≢ p → FadesAt c new x
  pub elsewhere : (x : Place) → x.drive ≢ p.drive → held new x ≡ held c x

-- no place
abbrev pub NoPlace : Place → Type 0
NoPlace p = ⊥

-- one place
abbrev pub Only : Place → Place → Type 0
Only p x = x ≡ p

-- drives that calls don't use are as they were
abbrev pub SameBut : {D : Type 0} → (ℕ → Type 0) → List D → List D → Type 0
SameBut used old new = (d : ℕ) → (used d → ⊥) → slice_get new d ≡ slice_get old d

-- what calls leave of a drive: its number of units and their size are unchanged, and untouched units are as they were. A lost
-- drive stays lost. The count of its own failures rises by one if the calls lost it, and else stays. A steady drive isn't lost by
-- them, and stays steady.
pub record KeepsDrive {D : Type 0} (units : D → List (List ℕ)) (lost : D → Bool) (failures : D → Failures) (touched : ℕ → Type 0) (x y : D) : Type 0 where
  pub room : length (units y) ≡ length (units x)
  pub sizes : (bytes : ℕ) → AreUnitsSized bytes (units x) → AreUnitsSized bytes (units y)
  pub elsewhere : (at : ℕ) → (touched at → ⊥) → slice_get (units y) at ≡ slice_get (units x) at
  pub stays : lost x ≡ true → lost y ≡ true
  pub count : CountsFailure (lost x) (lost y) (failures x) (failures y)
  pub steady : StaysSteady (lost x) (lost y) (failures x) (failures y)

-- what calls leave of all drives
pub record KeepsDrives {D : Type 0} (units : D → List (List ℕ)) (lost : D → Bool) (failures : D → Failures) (touched : Place → Type 0) (old new : List D) : Type 0 where
  pub many : length new ≡ length old
  pub each : (d : ℕ) (x y : D) → slice_get old d ≡ Some x → slice_get new d ≡ Some y
      → KeepsDrive units lost failures (λ at. touched (record { drive = d; address = at })) x y
