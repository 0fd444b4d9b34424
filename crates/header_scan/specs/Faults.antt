-- What is found in the headers of slots, and the fault that comes first.
use Rattle.std.specs.Prelude.{◌≡◌, ◌≢◌, ◌⊎◌, ℕ, ◌<◌, ◌≤◌, nat_le, nat_lt, ◌&&◌, if◌then◌else◌, Option, Some, None, Result, Ok, Err, List, take}
use Rattle.map_join.specs.declared.records.Record.{Record}
use Rattle.map_join.specs.Record.{IsRecord, stamp_of}
use Rattle.extents.specs.declared.header.Header.{Header}
use Rattle.extents.specs.declared.header.HeaderFault.{HeaderFault}
use Rattle.extents.specs.declared.shape.TheConstants.{HEADER_BYTES}
use Rattle.extents.specs.Header.{Spells, record_in}
use Rattle.extent_groups.specs.Groups.{Groups}
use Rattle.flat_machine.specs.Scanned.{HasHeader}
use Rattle.unit_store.specs.Slots.{IsSlot}
use Rattle.header_scan.specs.declared.fault.ScanFault.{ScanFault}
use Rattle.header_scan.specs.declared.fault.ScanFault.TheVariants.{Memory, BadHeader, WrongSlot, Twice, Gone, NoClaim, BadNote}

-- units by slot
abbrev pub SlotUnits : Type 0
SlotUnits = ℕ → Option (List ℕ)

-- the units of the slots from `low` on and below `high`
abbrev pub between : ℕ → ℕ → SlotUnits → SlotUnits
between low high bytes slot = if nat_le low slot && nat_lt slot high then bytes slot else None

-- what a header may hold at a slot: nothing, or a record of a block below the number of blocks and of this very slot
abbrev pub IsFine : ℕ → ℕ → Option Record → Type 0
IsFine blocks slot None = Unit {0}
IsFine blocks slot (Some r) = (r.block < blocks) × (r.place ≡ slot)

-- each field of what may be a record is in its range, and its version is no 0
abbrev pub IsRanged : Option Record → Type 0
IsRanged None = Unit {0}
IsRanged (Some r) = IsRecord r

-- the slot's unit is there, and its header holds this, which is fine
abbrev pub Reports : ℕ → SlotUnits → ℕ → Option Record → Type 0
Reports blocks bytes slot reported =
    (unit : List ℕ) × (bytes slot ≡ Some unit) × ((h : Header) × Spells (take HEADER_BYTES unit) h × (record_in h ≡ reported)) × IsFine blocks slot reported × IsRanged reported

-- the fault is that of this slot, by the units as they were and by those that are left
abbrev pub IsFaultAt : ℕ → SlotUnits → SlotUnits → ℕ → ScanFault → Type 0
IsFaultAt blocks bytes left slot (Gone s) = (s ≡ slot) × (left slot ≡ None)
IsFaultAt blocks bytes left slot (BadHeader s) = (s ≡ slot) × ((unit : List ℕ) × (bytes slot ≡ Some unit)
    × ((h : Header) → Spells (take HEADER_BYTES unit) h → (r : Record) × (record_in h ≡ Some r) × (blocks ≤ r.block)))
IsFaultAt blocks bytes left slot (WrongSlot s reported) = (s ≡ slot) × (reported ≢ slot) × ((r : Record) × HasHeader bytes slot r × (r.block < blocks) × (r.place ≡ reported))
IsFaultAt blocks bytes left slot Memory = ⊥
IsFaultAt blocks bytes left slot (Twice block first second) = ⊥
IsFaultAt blocks bytes left slot (NoClaim s) = ⊥
IsFaultAt blocks bytes left slot (BadNote s) = ⊥

-- the headers of the slots of groups are fine, from the slot `low` on and below `high`
abbrev pub AreFine : Groups → ℕ → ℕ → SlotUnits → Type 0
AreFine groups low high bytes = (slot : ℕ) → IsSlot groups slot → low ≤ slot → slot < high → (reported : Option Record) × Reports groups.blocks bytes slot reported

-- the block's greatest stamp is at two slots, and these are its two lowest
pub record IsTwice (bytes : SlotUnits) (block first second : ℕ) : Type 0 where
  pub one : Record
  pub other : Record
  pub here : HasHeader bytes first one × (one.block ≡ block)
  pub there : HasHeader bytes second other × (other.block ≡ block)
  pub order : first < second
  pub same : stamp_of other ≡ stamp_of one
  pub most : (slot : ℕ) (r : Record) → HasHeader bytes slot r → r.block ≡ block → stamp_of r ≤ stamp_of one
  pub lowest : (slot : ℕ) (r : Record) → HasHeader bytes slot r → r.block ≡ block → stamp_of r ≡ stamp_of one → (slot ≡ first) ⊎ (second ≤ slot)

-- the fault of a scan of the slots of groups in a range that comes first: that of the lowest slot that has one; else the
-- lowest block that occurs twice. Out of memory may come before.
abbrev pub IsFirstFault : Groups → ℕ → ℕ → SlotUnits → SlotUnits → ScanFault → Type 0
IsFirstFault groups low high bytes left Memory = Unit {0}
IsFirstFault groups low high bytes left (NoClaim slot) = ⊥
IsFirstFault groups low high bytes left (BadNote slot) = ⊥
IsFirstFault groups low high bytes left (Twice block first second) =
    AreFine groups low high bytes
    × IsTwice (between low high bytes) block first second
    × ((lower p q : ℕ) → lower < block → IsTwice (between low high bytes) lower p q → ⊥)
IsFirstFault groups low high bytes left fault = (slot : ℕ) × IsSlot groups slot × (low ≤ slot) × (slot < high) × IsFaultAt groups.blocks bytes left slot fault
    × AreFine groups low slot bytes

-- why what a header holds, if it holds anything, isn't fine at a slot
abbrev pub IsSlotFault : Result (Option Record) HeaderFault → ℕ → ℕ → ScanFault → Type 0
IsSlotFault (Err fault) blocks slot (BadHeader s) = s ≡ slot
IsSlotFault (Ok (Some r)) blocks slot (BadHeader s) = (s ≡ slot) × (blocks ≤ r.block)
IsSlotFault (Ok (Some r)) blocks slot (WrongSlot s reported) = (s ≡ slot) × (reported ≢ slot) × (r.block < blocks) × (r.place ≡ reported)
IsSlotFault _ _ _ _ = ⊥
