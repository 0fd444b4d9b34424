-- What is read of a vault, and held in memory.
use Rattle.std.specs.Prelude.{◌≡◌, ◌↔◌, ◌⊎◌, ◌<◌, ℕ, Bool, true, false, Some, is_some, List, length, slice_get}
use Rattle.extents.specs.Condition.{Held}
use Rattle.extents.specs.Units.{AreUnitsSized}
use Rattle.extents.specs.declared.mem_drive.Condition.TheVariants.{Present}
use Rattle.extent_groups.specs.declared.place.Place.{Place}
use Rattle.extent_groups.specs.Cells.{Cells, held}
use Rattle.vault.specs.Images.{Image, is_lost}
use Rattle.vault.specs.Moments.{Elapses}
use Rattle.vault.specs.declared.store.Stop.{Stop}

-- A vault was only read: later calls find what they found before, and a stop leaves what it left before.
pub record OnlyRead {V : Type 0} (seen : V → Image) (may_leave : V → Stop → Image → Type 0) (moment : V → ℕ) (left_since : V → Stop → ℕ → Image → Type 0) (old new : V) : Type 0 where
  pub finds : seen new ≡ seen old
  pub time : (stop : Stop) → Elapses (moment old) (moment new) (left_since old stop) (left_since new stop) (may_leave old stop) (may_leave new stop)

-- drives in memory that answer, with this many units of this size
pub record AreFormed (count size : ℕ) (caches : List Held) : Type 0 where
  pub present : (d : ℕ) (m : Held) → slice_get caches d ≡ Some m → m.condition ≡ Present
  pub many : (d : ℕ) (m : Held) → slice_get caches d ≡ Some m → length m.units ≡ count
  pub sized : (d : ℕ) (m : Held) → slice_get caches d ≡ Some m → AreUnitsSized size m.units

-- a drive in memory answers, and has as many units as before, of this size
pub record KeepsForm (size : ℕ) (old new : Held) : Type 0 where
  pub present : new.condition ≡ Present
  pub many : length new.units ≡ length old.units
  pub sized : AreUnitsSized size new.units

-- the units of each drive that isn't lost are those that lie at its places, as far as it has any
pub record HaveUnits (lost : List Bool) (c : Cells) (caches : List Held) : Type 0 where
  pub each : (d at : ℕ) (m : Held) → slice_get caches d ≡ Some m → is_lost lost d ≡ false → at < length m.units → c d at ≡ slice_get m.units at

-- A unit lies at a place. If that isn't noted, it was read, as a drive in memory has it, and is attested.
pub record IsReadOrNoted (noted attested : Place → Type 0) (c : Cells) (place : Place) (units : List (List ℕ)) : Type 0 where
  pub there : is_some (held c place) ≡ true
  pub found : (noted place → ⊥) → held c place ≡ slice_get units place.address
  pub digest : (noted place → ⊥) → attested place

-- the same of each unit of the drives that aren't lost, as far as these have any
pub record AreReadOrNoted (noted attested : Place → Type 0) (lost : List Bool) (c : Cells) (caches : List Held) : Type 0 where
  pub each : (d at : ℕ) (m : Held) → slice_get caches d ≡ Some m → is_lost lost d ≡ false → at < length m.units
      → IsReadOrNoted noted attested c (record { drive = d; address = at }) m.units

-- calls leave attested what was, and nothing else
abbrev pub SameAttested : {V : Type 0} → (V → Place → Type 0) → V → V → Type 0
SameAttested attested old new = (x : Place) → attested new x ↔ attested old x

-- only places that aren't attested are noted
abbrev pub NotesRotten : (attested old new : Place → Type 0) → Type 0
NotesRotten attested old new = (x : Place) → new x → old x ⊎ (attested x → ⊥)

-- only places that are P are noted
abbrev pub NotesOnly : (P old new : Place → Type 0) → Type 0
NotesOnly P old new = (x : Place) → new x → old x ⊎ P x

-- a place of the first drives, each with this many units
abbrev pub IsInside : (drives units : ℕ) → Place → Type 0
IsInside drives units x = (x.drive < drives) × (x.address < units)

-- what was noted stays noted
abbrev pub KeepsNoted : (Place → Type 0) → (Place → Type 0) → Type 0
KeepsNoted old new = (x : Place) → old x → new x
