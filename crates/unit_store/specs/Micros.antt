-- Lists of single writes with a note, and what the first of them leave.
use Rattle.std.specs.Prelude.{◌≡◌, ℕ, Option, Some, None, List, [], ◌∷◌, length, Contains}
use Rattle.extent_groups.specs.declared.place.Place.{Place}
use Rattle.extent_groups.specs.Calls.{IsPlace}
use Rattle.extent_groups.specs.Planned.{Intended}
use Rattle.extent_groups.specs.Stores.{unit_bytes}
use Rattle.unit_store.specs.declared.micro.Micro.{Micro}
use Rattle.unit_store.specs.declared.micro.Micro.TheVariants.{NoteSet, Write, NoteClear}
use Rattle.unit_store.specs.declared.note.Note.{Note}
use Rattle.unit_store.specs.declared.parts.Parts.{Parts}

-- the writes of units in a list, in their order
abbrev pub writes_in : List Micro → List Intended
writes_in [] = []
writes_in (NoteSet note ∷ list) = writes_in list
writes_in (Write drive at unit ∷ list) = record { place = record { drive = drive; address = at }; unit = unit.items } ∷ writes_in list
writes_in (NoteClear ∷ list) = writes_in list

-- the note after a list was carried out
abbrev pub note_after : Option Note → List Micro → Option Note
note_after before [] = before
note_after before (NoteSet set ∷ list) = note_after (Some set) list
note_after before (Write drive at unit ∷ list) = note_after before list
note_after before (NoteClear ∷ list) = note_after None list

-- a place that the list writes
abbrev pub IsWritten : List Micro → Place → Type 0
IsWritten list x = (w : Intended) × Contains (writes_in list) w × (w.place ≡ x)

-- each write of a unit is to a place of one of the drives, and as long as a unit
abbrev pub AreWrites : {D : Type 0} → (D → List (List ℕ)) → Parts D → List Micro → Type 0
AreWrites units parts list = (w : Intended) → Contains (writes_in list) w → IsPlace units parts.drives.items w.place × (length w.unit ≡ unit_bytes parts.groups)

-- shape, groups and owners are as they were
pub record KeepsGroups {D : Type 0} (old new : Parts D) : Type 0 where
  pub shape : new.shape ≡ old.shape
  pub groups : new.groups ≡ old.groups
  pub extents : new.extents ≡ old.extents
