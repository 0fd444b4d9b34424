-- Notes of a write that was begun: when one can be finished, and what finishing it leaves.
use Rattle.std.specs.Prelude.{◌≡◌, ℕ, ◌==◌, ◌&&◌, Bool, true, false, if◌then◌else◌, Option, Some, None, List, length, option_map, slice_get}
use Rattle.extents.specs.Failures.{Failures}
use Rattle.extent_groups.specs.declared.place.Place.{Place}
use Rattle.extent_groups.specs.Calls.{KeepsDrives}
use Rattle.extent_groups.specs.Groups.{Groups}
use Rattle.extent_groups.specs.Cells.{Cells, held}
use Rattle.extent_groups.specs.declared.plan.PlanRefusal.{PlanRefusal}
use Rattle.extent_groups.specs.declared.plan.PlanRefusal.TheVariants as why
use Rattle.flat_machine.specs.declared.refusal.Refusal.{Refusal}
use Rattle.flat_machine.specs.declared.refusal.Refusal.TheVariants as refusal
use Rattle.extent_groups.specs.Planned.{Intended, expected_parity, IsPlan, IsFinished}
use Rattle.extent_groups.specs.Stores.{unit_bytes, IsOwnOf}
use Rattle.extent_groups.specs.Units.{Site, Pair, InStripe, site_of}
use Rattle.unit_store.specs.declared.note.Note.{Note}
use Rattle.unit_store.specs.declared.parts.Parts.{Parts}
use Rattle.unit_store.specs.Slots.{IsSlot, cells_in}

-- a note as plain data
pub record NoteView : Type 0 where
  pub slot : ℕ
  pub unit : List ℕ
  pub parity : Option (List ℕ)

abbrev pub note_view : Note → NoteView
note_view n = record { slot = n.slot; unit = n.unit.items; parity = option_map (λ v. v.items) n.parity }

-- whether what may be a place is this one
abbrev pub is_at : Option Place → Place → Bool
is_at None x = false
is_at (Some p) x = (x.drive == p.drive) && (x.address == p.address)

-- what a note has for a place of its slot: the parity for the parity's place, if it has one, and the unit for any other
abbrev pub unit_noted : Option Site → List ℕ → Option (List ℕ) → Place → List ℕ
unit_noted (Some (InStripe row parity i)) unit (Some sum) x = if is_at (slice_get row parity) x then sum else unit
unit_noted site unit sum x = unit

abbrev pub noted_unit : Option Site → NoteView → Place → List ℕ
noted_unit site n x = unit_noted site n.unit n.parity x

-- the parity of a note is as its slot asks: none for a mirrored slot; for a parity slot one of a unit's length, or none where
-- the parity's drive is lost
abbrev pub IsParityFor : ℕ → (ℕ → Bool) → Option Site → Option (List ℕ) → Type 0
IsParityFor bytes missing None sum = ⊥
IsParityFor bytes missing (Some (Pair p q)) None = Unit {0}
IsParityFor bytes missing (Some (Pair p q)) (Some sum) = ⊥
IsParityFor bytes missing (Some (InStripe row parity i)) (Some sum) = length sum ≡ bytes
IsParityFor bytes missing (Some (InStripe row parity i)) None = (x : Place) → slice_get row parity ≡ Some x → missing x.drive ≡ true

-- a note that can be finished
pub record IsGoodNote (groups : Groups) (missing : ℕ → Bool) (n : NoteView) : Type 0 where
  pub slot : IsSlot groups n.slot
  pub unit : length n.unit ≡ unit_bytes groups
  pub parity : IsParityFor (unit_bytes groups) missing (site_of groups n.slot) n.parity

-- what may be a note is none, or one that can be finished
abbrev pub IsFineNote : Groups → (ℕ → Bool) → Option Note → Type 0
IsFineNote groups missing None = Unit {0}
IsFineNote groups missing (Some n) = IsGoodNote groups missing (note_view n)

-- what may be a note is one that can't be
abbrev pub IsBadNote : Groups → (ℕ → Bool) → Option Note → Type 0
IsBadNote groups missing None = ⊥
IsBadNote groups missing (Some n) = IsGoodNote groups missing (note_view n) → ⊥

-- what may be a note was finished, and there is none now: without one all is as it was; else the places of its slot got what it has
-- for them, or their drives are lost
abbrev pub AreFinished : {D : Type 0} → (D → List (List ℕ)) → (D → Bool) → (D → Failures) → Option Note → Parts D → Parts D → Type 0
AreFinished units lost failures None old new = new ≡ old
AreFinished units lost failures (Some n) old new =
    IsFinished old.groups (cells_in units lost old) (cells_in units lost new) n.slot (noted_unit (site_of old.groups n.slot) (note_view n))
    × KeepsDrives units lost failures (IsOwnOf old.groups n.slot) old.drives.items new.drives.items

pub record WasFinished {D : Type 0} (units : D → List (List ℕ)) (lost : D → Bool) (failures : D → Failures) (old new : Parts D) : Type 0 where
  pub cleared : new.note ≡ None
  pub shape : new.shape ≡ old.shape
  pub groups : new.groups ≡ old.groups
  pub extents : new.extents ≡ old.extents
  pub finished : AreFinished units lost failures old.note old new

-- what may be a note was written to the places of its slot, and is still there
pub record IsNoteWritten {D : Type 0} (units : D → List (List ℕ)) (lost : D → Bool) (failures : D → Failures) (old new : Parts D) : Type 0 where
  pub note : new.note ≡ old.note
  pub shape : new.shape ≡ old.shape
  pub groups : new.groups ≡ old.groups
  pub extents : new.extents ≡ old.extents
  pub finished : AreFinished units lost failures old.note old new

-- the plan of a slot's unit, and the parity that its note needs: what each of the slot's places gets is the note's for that place
pub record IsSlotPlan (groups : Groups) (c : Cells) (slot : ℕ) (unit : List ℕ) (writes : List Intended) (parity : Option (List ℕ)) : Type 0 where
  pub expected : Place → List ℕ
  pub plan : IsPlan groups c slot unit expected writes
  pub parity_is : parity ≡ expected_parity c expected (site_of groups slot)
  pub noted : (x : Place) → IsOwnOf groups slot x → (held c x ≡ None → ⊥) → expected x ≡ unit_noted (site_of groups slot) unit parity x

-- a store's refusal of a plan, as an array's
abbrev pub refused_as : PlanRefusal → Refusal
refused_as why.Memory = refusal.Memory
refused_as (why.Gone slot) = refusal.Gone slot
