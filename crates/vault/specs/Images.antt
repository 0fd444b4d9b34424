-- What lies in a vault, and which units it represents.
use Rattle.std.specs.Prelude.{◌≡◌, ℕ, Bool, false, Option, Some, None, List, [], ◌∷◌, ◌++◌, slice_get}
use Rattle.extent_groups.specs.declared.place.Place.{Place}
use Rattle.extent_groups.specs.Cells.{Cells, held}
use Rattle.extent_groups.specs.Planned.{Intended, with_unit, after}

-- the unit at each place, and the batches of writes in the journal
pub record Image : Type 0 where
  pub cells : Cells
  pub journal : List (List Intended)

-- the writes of batches, one after the other
abbrev pub flat : List (List Intended) → List Intended
flat [] = []
flat (writes ∷ batches) = writes ++ flat batches

-- the units that an image represents: those after the writes of its journal
abbrev pub recovered : Image → Cells
recovered i = after i.cells (flat i.journal)

abbrev pub is_some_true : Option Bool → Bool
is_some_true None = false
is_some_true (Some b) = b

-- a drive is among the lost ones; one without a mark isn't
abbrev pub is_lost : List Bool → ℕ → Bool
is_lost lost drive = is_some_true (slice_get lost drive)

-- the same units at each place
abbrev pub SameUnits : Cells → Cells → Type 0
SameUnits c d = (x : Place) → held c x ≡ held d x

-- the same units at each place of a drive that isn't lost
abbrev pub SameOn : List Bool → Cells → Cells → Type 0
SameOn lost c d = (x : Place) → is_lost lost x.drive ≡ false → held c x ≡ held d x

-- the same units, and the same journal
pub record Alike (i j : Image) : Type 0 where
  pub cells : SameUnits i.cells j.cells
  pub journal : i.journal ≡ j.journal

-- with a unit over that of a place, and with another journal
abbrev pub with_write : Image → Place → List ℕ → Image
with_write i place unit = record { cells = with_unit i.cells (record { place = place; unit = unit }); journal = i.journal }

abbrev pub with_journal : Image → List (List Intended) → Image
with_journal i batches = record { cells = i.cells; journal = batches }

-- an image represents these units, but for those of lost drives
abbrev pub Matches : List Bool → Cells → Image → Type 0
Matches lost cells i = SameOn lost (recovered i) cells
