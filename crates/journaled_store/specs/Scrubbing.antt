-- The units of a vault, compared with an array's one after another.
use Rattle.std.specs.Prelude.{◌≡◌, ◌<◌, ◌≤◌, ◌+◌, ◌⊎◌, ◌^◌, ◌-◌, ℕ, suc, min, Bool, true, false, Option, Some, None, List, length, slice_get, ⊤, Result, Ok, Err}
use Rattle.extent_groups.specs.declared.place.Place.{Place}
use Rattle.extent_groups.specs.Cells.{Cells, held}
use Rattle.unit_store.specs.Views.{DriveView}
use Rattle.journaled_store.specs.declared.position.ScrubPosition.{ScrubPosition}
use Rattle.journaled_store.specs.declared.position.Scrubbed.{Scrubbed}
use Rattle.journaled_store.specs.declared.position.Scrubbed.TheVariants as done
use Rattle.journaled_store.specs.declared.comparing.Compared.{Compared}
use Rattle.journaled_store.specs.declared.comparing.Compared.TheVariants as found

-- the place of the unit at a position
abbrev pub place_at_position : ScrubPosition → Place
place_at_position at = record { drive = at.drive; address = at.address }

-- the unit is the last of its drive, or that is lost, or there is none
abbrev pub IsLastPosition : List DriveView → ScrubPosition → Type 0
IsLastPosition drives at = (v : DriveView) → slice_get drives at.drive ≡ Some v → v.lost ≡ false → length v.units ≤ suc at.address

-- The position after another one: the next unit of its drive, else the first of the next drive, else the first of all. There a round ends.
pub record IsNextPosition (drives : List DriveView) (at next : ScrubPosition) (ends : Bool) : Type 0 where
  pub on : (v : DriveView) → slice_get drives at.drive ≡ Some v → v.lost ≡ false → suc at.address < length v.units
      → (next.drive ≡ at.drive) × (next.address ≡ suc at.address) × (ends ≡ false)
  pub over : IsLastPosition drives at → suc at.drive < length drives → (next.drive ≡ suc at.drive) × (next.address ≡ 0) × (ends ≡ false)
  pub back : IsLastPosition drives at → length drives ≤ suc at.drive → (next.drive ≡ 0) × (next.address ≡ 0) × (ends ≡ true)

-- there is no unit to compare: the drive is lost, or has none there, or there is no such drive
abbrev pub HasNone : List DriveView → ScrubPosition → Type 0
HasNone drives at = (v : DriveView) → slice_get drives at.drive ≡ Some v → v.lost ≡ false → length v.units ≤ at.address

-- a drive that isn't lost has this unit there
pub record HasUnit (drives : List DriveView) (at : ScrubPosition) (unit : List ℕ) : Type 0 where
  pub view : DriveView
  pub there : slice_get drives at.drive ≡ Some view
  pub present : view.lost ≡ false
  pub unit_is : slice_get view.units at.address ≡ Some unit

-- what lies in the vault is the array's unit, and as its digest says
pub record IsHeldAt (attested : Place → Type 0) (c : Cells) (drives : List DriveView) (at : ScrubPosition) : Type 0 where
  pub unit : List ℕ
  pub array : HasUnit drives at unit
  pub vault : held c (place_at_position at) ≡ Some unit
  pub digest : attested (place_at_position at)

-- what a comparison with a unit says of the one in the vault
abbrev pub IsCompared : (attested : Place → Type 0) → Cells → Place → List ℕ → Compared → Type 0
IsCompared attested c place unit found.Same = attested place × (held c place ≡ Some unit)
IsCompared attested c place unit found.Waits = attested place
IsCompared attested c place unit found.Other = (held c place ≡ Some unit) → ⊥
IsCompared attested c place unit found.Unsound = attested place → (held c place ≡ Some unit) → ⊥

-- batches of the journal or units of a batch aren't at their places yet
abbrev pub IsPending : ℕ → ℕ → Type 0
IsPending batches units = 0 < batches + units

-- the counts after a unit
abbrev pub one_more : ℕ → ℕ
one_more n = min (n + 1) (2 ^ 64 - 1)

abbrev pub compared_after : ℕ → Scrubbed → ℕ
compared_after n done.Same = one_more n
compared_after n done.Repaired = one_more n
compared_after n done.Waits = one_more n
compared_after n done.Skipped = n
compared_after n (done.Failed e) = n

abbrev pub repaired_after : ℕ → Scrubbed → ℕ
repaired_after n done.Repaired = one_more n
repaired_after n done.Same = n
repaired_after n done.Waits = n
repaired_after n done.Skipped = n
repaired_after n (done.Failed e) = n

abbrev pub rounds_after : ℕ → Bool → ℕ
rounds_after n true = one_more n
rounds_after n false = n

abbrev pub IsFailed : Scrubbed → Type 0
IsFailed (done.Failed e) = ⊤
IsFailed done.Same = ⊥
IsFailed done.Repaired = ⊥
IsFailed done.Waits = ⊥
IsFailed done.Skipped = ⊥

-- The position moves to the next unit, and a round that ends is counted; a failure may leave both.
abbrev pub HasAdvanced : List DriveView → ScrubPosition → ℕ → ScrubPosition → ℕ → Scrubbed → Type 0
HasAdvanced drives at rounds next more outcome = ((ends : Bool) × IsNextPosition drives at next ends × (more ≡ rounds_after rounds ends))
    ⊎ (IsFailed outcome × (next ≡ at) × (more ≡ rounds))
