-- A step of an array as single writes with a note, a stop after any number of them, and the state that a restart then finds.
use Rattle.std.specs.Prelude.{◌≡◌, ℕ, zero, suc, Bool, Option, Some, None, List, [], ◌∷◌, ◌++◌, length, take, option_map}
use Rattle.extent_groups.specs.declared.place.Place.{Place}
use Rattle.extent_groups.specs.Cells.{held}
use Rattle.extent_groups.specs.Calls.{FadesAt}
use Rattle.extent_groups.specs.Planned.{Intended, after, expected_parity, IsPlan}
use Rattle.extent_groups.specs.Stores.{unit_bytes, IsOwnOf}
use Rattle.extent_groups.specs.Units.{site_of}
use Rattle.extent_groups.specs.Groups.{Groups}
use Rattle.extent_groups.specs.Missing.{IsGone}
use Rattle.flat_machine.specs.Flat.{Flat, Stored, put}
use Rattle.unit_store.specs.declared.micro.Micro.{Micro}
use Rattle.unit_store.specs.declared.micro.Micro.TheVariants.{NoteSet, Write, NoteClear}
use Rattle.unit_store.specs.declared.note.Note.{Note}
use Rattle.unit_store.specs.declared.parts.Parts.{Parts}
use Rattle.unit_store.specs.Fit.{IsFit}
use Rattle.unit_store.specs.Micros.{writes_in, note_after, KeepsGroups}
use Rattle.unit_store.specs.Notes.{note_view, noted_unit}
use Rattle.unit_store.specs.Shows.{IsUnit}
use Rattle.unit_store.specs.Slots.{IsSlot, cells_in, missing_in}
use Rattle.unit_store.specs.Views.{view_of}
use Rattle.slot_tables.specs.Adopted.{HasParts}
use Rattle.slot_tables.specs.Represents.{ShowsArray}
use Rattle.slot_tables.specs.Views.{ArrayView}
use Rattle.flat_machine.specs.Restarted.{IsRestarted, ReportMap}
use Rattle.extents.specs.Failures.{Failures}
use Rattle.slot_tables.specs.Claims.{IsUnclaimed}
use Rattle.header_scan.specs.declared.fault.ScanFault.{ScanFault}
use Rattle.header_scan.specs.declared.fault.ScanFault.TheVariants.{Memory, Gone, NoClaim}
use Rattle.header_scan.specs.Restarts.{HasUnits}

-- each entry writes a unit
abbrev pub ArePuts : List Micro → Type 0
ArePuts [] = Unit {0}
ArePuts (Write drive at unit ∷ list) = ArePuts list
ArePuts (_ ∷ list) = ⊥

-- the list of a note and these writes: the note is set, the writes come in their order, and the note is cleared
pub record IsNotedList (note : Note) (writes : List Intended) (list : List Micro) : Type 0 where
  pub puts : List Micro
  pub is : list ≡ NoteSet note ∷ (puts ++ NoteClear ∷ [])
  pub only : ArePuts puts
  pub writes_are : writes_in puts ≡ writes

-- the list of a step that gives a slot its unit, from the state F to the state G, over parts without a note: a note of the slot
-- with its whole unit, and the whole parity where one is written; the writes of the slot's plan; the note cleared
pub record IsMicro {D : Type 0} (units : D → List (List ℕ)) (lost : D → Bool) (p : Parts D) (F G : Flat) (list : List Micro) : Type 0 where
  pub note : Note
  pub expected : Place → List ℕ
  pub writes : List Intended
  pub unit : Stored
  pub none : p.note ≡ None
  pub slot : IsSlot p.groups note.slot
  pub long : length note.unit.items ≡ unit_bytes p.groups
  pub listed : IsNotedList note writes list
  pub plan : IsPlan p.groups (cells_in units lost p) note.slot note.unit.items expected writes
  pub parity : option_map (λ v. v.items) note.parity ≡ expected_parity (cells_in units lost p) expected (site_of p.groups note.slot)
  pub noted : (x : Place) → IsOwnOf p.groups note.slot x → (held (cells_in units lost p) x ≡ None → ⊥)
      → expected x ≡ noted_unit (site_of p.groups note.slot) (note_view note) x
  pub is : IsUnit note.unit.items unit
  pub groups : G.groups ≡ F.groups
  pub units_are : G.units ≡ put F.units note.slot (Some unit)

-- the first n entries were carried out over the parts p, and any drives may have been lost since
pub record IsStopped {D : Type 0} (units : D → List (List ℕ)) (lost : D → Bool) (p q : Parts D) (list : List Micro) (n : ℕ) : Type 0 where
  pub note : q.note ≡ note_after p.note (take n list)
  pub groups : KeepsGroups p q
  pub many : length q.drives.items ≡ length p.drives.items
  pub cells : (x : Place) → FadesAt (after (cells_in units lost p) (writes_in (take n list))) (cells_in units lost q) x

-- a place of the slot of what may be a note
abbrev pub IsNotedPlace : Groups → Option Note → Place → Type 0
IsNotedPlace groups None x = ⊥
IsNotedPlace groups (Some note) x = IsOwnOf groups note.slot x

-- what a stop left of the parts p after the first n entries, however it came: any drives may have been lost since, what was lost
-- stays lost, and while a note is set the places of its slot may hold any bytes, since a write may be torn, or made before another
pub record IsLeftByStop {D : Type 0} (units : D → List (List ℕ)) (lost : D → Bool) (p q : Parts D) (list : List Micro) (n : ℕ) : Type 0 where
  pub note : q.note ≡ note_after p.note (take n list)
  pub groups : KeepsGroups p q
  pub many : length q.drives.items ≡ length p.drives.items
  pub none : (x : Place) → held (cells_in units lost p) x ≡ None → held (cells_in units lost q) x ≡ None
  pub cells : (x : Place) → (IsNotedPlace p.groups q.note x → ⊥) → FadesAt (after (cells_in units lost p) (writes_in (take n list))) (cells_in units lost q) x

-- the state that holds after a stop: that of before the step where nothing was carried out, and that of after it as soon as the
-- note was set
abbrev pub standing : ℕ → Flat → Flat → Flat
standing zero F G = F
standing (suc n) F G = G

-- X is the state Y but for its drives: how many there are, which are lost, and how they failed
pub record IsButLost (Y X : Flat) : Type 0 where
  pub is : X ≡ record Y { drives = X.drives; lost = X.lost; failures = X.failures }

-- an array that was restarted from what a stop left: for every step, as its list over the parts before it, and every number of
-- entries, it represents the restarted state of before the step or of after it
abbrev pub IsResumed : {D : Type 0} → (D → List (List ℕ)) → (D → Bool) → (D → Failures) → Parts D → ArrayView → Type 0
IsResumed {D} units lost failures q a = (p : Parts D) (F G : Flat) (list : List Micro) (n : ℕ) → IsFit units p → HasParts (view_of units lost failures p) F → HasUnits F
    → IsMicro units lost p F G list → IsLeftByStop units lost p q list n
    → (X : Flat) × (keys : ℕ → ℕ) × (K : Flat) × IsButLost (standing n F G) X × IsRestarted X keys K × ShowsArray a K

-- how many entries of a list count as carried out once its note was finished: none, or all
abbrev pub finished_count : ℕ → List Micro → ℕ
finished_count zero list = zero
finished_count (suc n) list = length list

-- the parts that came back where no array was made of what a stop left: for every such step they are what a stop leaves where
-- nothing was carried out, or the whole list
abbrev pub IsLeftAgain : {D : Type 0} → (D → List (List ℕ)) → (D → Bool) → Parts D → Parts D → Type 0
IsLeftAgain {D} units lost q left = (p : Parts D) (F G : Flat) (list : List Micro) (n : ℕ) → IsFit units p → IsMicro units lost p F G list → IsLeftByStop units lost p q list n
    → IsLeftByStop units lost p left list (finished_count n list)

-- why none was, where the units of the state that stands have this map: out of memory; a slot of which geometry and the drives that
-- are lost leave no unit; or the lowest newest place of which there is no claim
abbrev pub IsLeftFault : {D C : Type 0} → (D → Bool) → Parts D → (C → ℕ) → List C → (ℕ → ℕ) → ScanFault → Type 0
IsLeftFault lost left names claims keys Memory = Unit {0}
IsLeftFault lost left names claims keys (Gone s) = IsGone left.groups (missing_in lost left) s
IsLeftFault lost left names claims keys (NoClaim s) = IsUnclaimed names claims keys s
IsLeftFault lost left names claims keys _ = ⊥

-- for every such step
abbrev pub IsWhyLeft : {D C : Type 0} → (D → List (List ℕ)) → (D → Bool) → (D → Failures) → Parts D → Parts D → (C → ℕ) → List C → ScanFault → Type 0
IsWhyLeft {D} units lost failures q left names claims fault = (p : Parts D) (F G : Flat) (list : List Micro) (n : ℕ) (keys : ℕ → ℕ) → IsFit units p
    → HasParts (view_of units lost failures p) F → HasUnits F → IsMicro units lost p F G list → IsLeftByStop units lost p q list n
    → ReportMap (standing n F G).groups (standing n F G).units keys → IsLeftFault lost left names claims keys fault
