-- What is noted of headers while slots are scanned in ascending order.
use Rattle.std.specs.Prelude.{◌≡◌, ◌⊎◌, ℕ, ◌==◌, if◌then◌else◌, ◌%◌, ◌^◌, ◌<◌, ◌≤◌, Option, Some, None, List, slice_index}
use Rattle.map_join.specs.declared.records.Record.{Record}
use Rattle.map_join.specs.Record.{stamp_of, stamp_in, record_of, record_at}
use Rattle.flat_machine.specs.Scanned.{HasHeader}
use Rattle.flat_machine.specs.Restarted.{HasDistinctSlots}
use Rattle.extent_groups.specs.Groups.{Groups}
use Rattle.extent_groups.specs.Cells.{Cells}
use Rattle.extent_groups.specs.Stores.{unit_of, AreSound, KeepsUnits}
use Rattle.header_scan.specs.Faults.{SlotUnits, between, AreFine}

-- the key of a block, by a table of the blocks' keys
abbrev pub key_in : List ℕ → ℕ → ℕ
key_in keys block = slice_index keys block

-- the slot of the record that a key encodes
abbrev pub place_in : ℕ → ℕ
place_in key = key % 2 ^ 16

-- the stamp of what may be a record, 0 of none
abbrev pub stamp_in_option : Option Record → ℕ
stamp_in_option None = 0
stamp_in_option (Some r) = stamp_of r

-- the stamp of a map's record of a block
abbrev pub stamp_at : (ℕ → ℕ) → ℕ → ℕ
stamp_at M block = stamp_in_option (record_at block (M block))

-- the slot's header is a record of the block with this stamp
abbrev pub HasStamp : SlotUnits → ℕ → ℕ → ℕ → Type 0
HasStamp bytes block slot stamp = (r : Record) × HasHeader bytes slot r × (r.block ≡ block) × (stamp_of r ≡ stamp)

-- of the stamps of one block, each at its slot: `newest` is the key of the greatest at its lowest slot, and `twin` that of a
-- stamp that occurs twice, the greatest if that does, at its second lowest slot
pub record IsNoted (Has : ℕ → ℕ → Type 0) (newest twin : ℕ) : Type 0 where
  pub found : 0 < newest → Has (place_in newest) (stamp_in newest)
  pub first : (slot stamp : ℕ) → Has slot stamp → (stamp < stamp_in newest) ⊎ ((stamp ≡ stamp_in newest) × (place_in newest ≤ slot))
  pub again : 0 < twin → Has (place_in twin) (stamp_in twin) × (stamp_in twin ≡ stamp_in newest → place_in newest < place_in twin)
  pub second : (slot stamp : ℕ) → Has slot stamp → stamp ≡ stamp_in newest → (slot ≡ place_in newest) ⊎ ((stamp_in twin ≡ stamp_in newest) × (place_in twin ≤ slot))

-- the key of the newest has a twin
abbrev pub IsTwin : ℕ → ℕ → Type 0
IsTwin newest twin = (0 < twin) × (stamp_in twin ≡ stamp_in newest)

-- the slots of two records of one stamp
abbrev pub twins_in : Option Record → Option Record → Option (ℕ × ℕ)
twins_in None other = None
twins_in (Some one) None = None
twins_in (Some one) (Some other) = if stamp_of one == stamp_of other then Some (one.place, other.place) else None

-- the two slots of a block's newest stamp, where it is at two
abbrev pub twins_at : (ℕ → ℕ) → (ℕ → ℕ) → ℕ → Option (ℕ × ℕ)
twins_at newest twins block = twins_in (record_at block (newest block)) (record_at block (twins block))

-- no block below the bound has its newest stamp at two slots
abbrev pub HasNoTwins : (ℕ → ℕ) → (ℕ → ℕ) → ℕ → Type 0
HasNoTwins newest twins bound = (block : ℕ) → block < bound → twins_at newest twins block ≡ None

-- the block has its newest stamp at these two slots, and no lower block has its own at two
pub record AreFirstTwins (newest twins : ℕ → ℕ) (block first second : ℕ) : Type 0 where
  pub here : twins_at newest twins block ≡ Some (first, second)
  pub lower : HasNoTwins newest twins block

-- the slots from `low` on and below `high` were scanned, and this is noted of the units as they were at the start
pub record IsUnderway (groups : Groups) (start now : Cells) (low high : ℕ) (newest twins : ℕ → ℕ) : Type 0 where
  pub sound : AreSound groups now
  pub keeps : KeepsUnits groups start now
  pub fine : AreFine groups low high (unit_of groups start)
  pub noted : (block : ℕ) → IsNoted (HasStamp (between low high (unit_of groups start)) block) (newest block) (twins block)

-- what reads leave of sound units: all slots are still sound, and each unit that exists afterwards is what it was
abbrev pub Keeps : Groups → Cells → Cells → Type 0
Keeps groups c new = AreSound groups c → KeepsUnits groups c new × AreSound groups new

-- a source of units was only read. If all slots were sound, they still are, and each unit that still exists is what it was. The
-- groups are the same, headers may be read again, and only which drives are lost may have changed
pub record WasOnlyRead {S : Type 0} (groups_of : S → Groups) (cells_of : S → Cells) (fits_of : S → Type 0) (leaves_of : S → S → Type 0) (old new : S) : Type 0 where
  pub keeps : Keeps (groups_of old) (cells_of old) (cells_of new)
  pub groups : groups_of new ≡ groups_of old
  pub fits : fits_of new
  pub leaves : leaves_of old new

-- the records of a map have their places, all below a slot
pub record ArePlaced (groups : Groups) (bound : ℕ) (keys : ℕ → ℕ) : Type 0 where
  pub places : HasDistinctSlots groups keys
  pub below : (b : ℕ) → 0 < keys b → (record_of b (keys b)).place < bound
