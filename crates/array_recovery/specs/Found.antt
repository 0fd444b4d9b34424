-- What is read of a vault, and held in memory.
use Rattle.std.specs.Prelude.{◌≡◌, ◌⊎◌, ◌==◌, ◌||◌, ◌<◌, ℕ, Bool, true, false, not, is_some, Some, List, length, slice_get, slice_index_or}
use Rattle.extents.specs.Condition.{Held}
use Rattle.extent_groups.specs.Cells.{Cells, held}
use Rattle.extent_groups.specs.Planned.{Intended}
use Rattle.extent_groups.specs.declared.place.Place.{Place}
use Rattle.history.specs.Entries.{Course}
use Rattle.vault.specs.Images.{Image, is_lost, recovered}
use Rattle.vault.specs.Moments.{IsWrittenTo}
use Rattle.cached_drive.specs.Saving.{Units, saved_by}
pub use Rattle.vault.specs.Attested.{IsLastIfAttested, with_cells}
pub use Rattle.rotten_units.specs.Loaded.{AreFormed, HaveUnits, OnlyRead}

-- the table has these marks
abbrev pub IsTable : List ℕ → Cells → Type 0
IsTable marks c = c 16 0 ≡ Some marks

-- the table has a mark of a drive
abbrev pub is_marked : List ℕ → ℕ → Bool
is_marked marks d = not (slice_index_or marks d 0 == 0)

-- the lost drives are those with a mark, and the absent ones
pub record AreGone (marks : List ℕ) (absent lost : List Bool) : Type 0 where
  pub each : (d : ℕ) → is_lost lost d ≡ (is_marked marks d || is_lost absent d)

-- Marks that are known are the table's, and there is a table.
pub record AreMarksIf (is_known : Bool) (marks : List ℕ) (c : Cells) : Type 0 where
  pub there : is_some (c 16 0) ≡ true
  pub table : is_known ≡ true → IsTable marks c

-- a place is taken out of a set only if it is written
abbrev pub TakesWritten : (old new : Place → Type 0) → List Intended → Type 0
TakesWritten old new writes = (x : Place) → old x → new x ⊎ IsWrittenTo writes x

-- what was found of a vault's units: the table's marks, which drives are lost, and the units of the others
pub record IsFoundInCells (c : Cells) (absent : List Bool) (marks : List ℕ) (lost : List Bool) (caches : List Held) : Type 0 where
  pub table : IsTable marks c
  pub gone : AreGone marks absent lost
  pub units : HaveUnits lost c caches

-- Of the units of the first drives, but for lost ones, drives return what was written last, or nothing, or bytes that aren't as their digest
-- says.
abbrev pub AreUnitsLastIfAttested : (attested : Place → Type 0) → ℕ → List Bool → (written now : Cells) → Type 0
AreUnitsLastIfAttested attested drives lost written now = (x : Place) → x.drive < drives → is_lost lost x.drive ≡ false → IsLastIfAttested attested written now x

-- Drives return what was written last, or nothing, or bytes that aren't as their digest says: so it is with the table's marks, and with each
-- unit of the first drives that aren't lost. A drive is lost that the marks of what was written say is, or that is absent. The journal is as it
-- lies there.
pub record AreLastIfAttested (attested : Place → Type 0) (drives : ℕ) (absent : List Bool) (base : Image) (written : Cells) : Type 0 where
  pub table : IsLastIfAttested attested written base.cells (record { drive = 16; address = 0 })
  pub each : (marks : List ℕ) → IsTable marks (recovered (with_cells base written)) → (x : Place) → x.drive < drives
      → (is_marked marks x.drive || is_lost absent x.drive) ≡ false → IsLastIfAttested attested written base.cells x

-- Each drive has the units of that number in memory, is lost or not as it is said, and its units are those that its hand saved last.
-- There is one hand for each.
pub record AreSeated {D : Type 0} (units : D → Units) (gone : D → Bool) (lost : List Bool) (caches : List Held) (drives : List D) (k : Course Units) : Type 0 where
  pub many : length drives ≡ length caches
  pub hired : k.hired ≡ length caches
  pub units_are : (d : ℕ) (x : D) (m : Held) → slice_get drives d ≡ Some x → slice_get caches d ≡ Some m → units x ≡ m.units
  pub gone_are : (d : ℕ) (x : D) → slice_get drives d ≡ Some x → gone x ≡ is_lost lost d
  pub saved : (d : ℕ) (x : D) → slice_get drives d ≡ Some x → saved_by d k.log ≡ units x
