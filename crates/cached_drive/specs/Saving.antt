-- The units that were saved, and those that were written since.
use Rattle.std.specs.Prelude.{◌≡◌, ◌≢◌, ◌++◌, ◌<◌, ℕ, zero, suc, Bool, false, true, Some, List, [], ◌∷◌, length, slice_get, slice_index_or, Contains}
use Rattle.extent_groups.specs.Cells.{Cells}
use Rattle.extent_groups.specs.Planned.{Intended, after}
use Rattle.history.specs.declared.view.Entry.{Entry}
use Rattle.history.specs.Entries.{entries_by}

-- a drive's units
abbrev pub Units : Type 0
Units = List (List ℕ)

-- the units of the last save, or those before it
abbrev pub last_of : Units → List (Entry Units) → Units
last_of units [] = units
last_of units (e ∷ es) = last_of e.what es

-- the units that the hand of this number saved last, none where it saved none
abbrev pub saved_by : ℕ → List (Entry Units) → Units
saved_by hand log = last_of [] (entries_by hand log)

-- the units differ from the saved ones only at these addresses, if all of these are listed
pub record AreSaved (all : Bool) (dirty : List ℕ) (saved units : Units) : Type 0 where
  pub many : length saved ≡ length units
  pub listed : all ≡ false → (at : ℕ) → (Contains dirty at → ⊥) → slice_get saved at ≡ slice_get units at
  pub inside : (at : ℕ) → Contains dirty at → at < length units

-- an address has a mark
abbrev pub IsMarked : List Bool → ℕ → Type 0
IsMarked marks at = slice_get marks at ≡ Some true

-- no address is listed twice
abbrev pub IsOnce : List ℕ → Type 0
IsOnce ats = (i j : ℕ) → i < j → j < length ats → slice_index_or ats i 0 ≢ slice_index_or ats j 0

-- exactly the listed addresses have a mark, and none is listed twice
pub record AreDirtyMarks (marks : List Bool) (dirty : List ℕ) : Type 0 where
  pub marked : (at : ℕ) → Contains dirty at → IsMarked marks at
  pub listed : (at : ℕ) → (Contains dirty at → ⊥) → IsMarked marks at → ⊥
  pub once : IsOnce dirty

-- the writes of a drive's units at these addresses
abbrev pub writes_at : ℕ → Units → List ℕ → List Intended
writes_at drive units [] = []
writes_at drive units (at ∷ ats) = record { place = record { drive = drive; address = at }; unit = slice_index_or units at [] } ∷ writes_at drive units ats

-- the addresses 0 to count - 1
abbrev pub upto : ℕ → List ℕ
upto zero = []
upto (suc count) = upto count ++ count ∷ []

-- where a drive's saved units are held, they are the drive's units after some writes; no unit of another drive is written
pub record Brings (drive : ℕ) (saved units : Units) (writes : List Intended) : Type 0 where
  pub own : (c : Cells) → ((at : ℕ) → c drive at ≡ slice_get saved at) → (at : ℕ) → after c writes drive at ≡ slice_get units at
  pub others : (c : Cells) (d at : ℕ) → d ≢ drive → after c writes d at ≡ c d at
