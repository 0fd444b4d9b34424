-- What a call that reads answers of an array's drives.
use Rattle.std.specs.Prelude.{◌≡◌, ◌⊎◌, ℕ, List, [], Option, Some, None, Vec}
use Rattle.std.specs.Global.{Global}
use Rattle.map_join.specs.declared.records.Record.{Record}
use Rattle.map_join.specs.Record.{record_at}
use Rattle.unit_store.specs.Views.{WasRead, FoundGone}
use Rattle.flat_machine.specs.declared.refusal.Refusal.{Refusal}
use Rattle.flat_machine.specs.Flat.{Content, Payload, Trim}
use Rattle.flat_machine.specs.Steps.{Version, Seen, Data, Stale}
use Rattle.slot_tables.specs.Reads.{WasNotRead}
use Rattle.slot_tables.specs.Views.{ArrayView, key_at}
use Rattle.disk_array.specs.declared.read.At.{At}
use Rattle.disk_array.specs.declared.read.At.TheVariants as at

-- the version of a block that was read, with its payload in a buffer: those of its newest record and of the slot that this
-- names; none where that slot holds a trim, or where the block has no record, and then nothing was read
abbrev pub WasFoundIn : ArrayView → ArrayView → ℕ → Option ℕ → List ℕ → Type 0
WasFoundIn a b block None bytes = ((record_at block (key_at a block) ≡ None) × (b ≡ a))
    ⊎ ((r : Record) × (record_at block (key_at a block) ≡ Some r) × WasRead a.parts b.parts r.place Trim)
WasFoundIn a b block (Some version) bytes =
    (r : Record) × (record_at block (key_at a block) ≡ Some r) × (version ≡ r.version) × WasRead a.parts b.parts r.place (Payload bytes)

-- the same of a version with its payload
abbrev pub WasFound : ArrayView → ArrayView → ℕ → Option (ℕ × Vec ℕ Global) → Type 0
WasFound a b block None = WasFoundIn a b block None []
WasFound a b block (Some found) = WasFoundIn a b block (Some found.0) found.1.items

-- the slot of a block's newest record is gone
abbrev pub WasGone : ArrayView → ArrayView → ℕ → Refusal → Type 0
WasGone a b block refusal = (r : Record) × (record_at block (key_at a block) ≡ Some r) × FoundGone a.parts b.parts r.place refusal

-- a block wasn't read: out of memory, or the slot of its newest record is gone
abbrev pub WasNotFound : ArrayView → ArrayView → ℕ → Refusal → Type 0
WasNotFound a b block refusal = (r : Record) × (record_at block (key_at a block) ≡ Some r) × WasNotRead a b r.place refusal

-- a version that was read with its payload in a buffer, as plain data
abbrev pub version_in : Option ℕ → List ℕ → Option Version
version_in None bytes = None
version_in (Some version) bytes = Some (record { version = version; payload = bytes })

-- a version and payload that were read, as plain data
abbrev pub version_of : Option (ℕ × Vec ℕ Global) → Option Version
version_of None = None
version_of (Some found) = version_in (Some found.0) found.1.items

-- what was seen at a place, as plain data
abbrev pub seen_of : At → Seen
seen_of (at.Data payload) = Data (Payload payload.items)
seen_of at.Trimmed = Data Trim
seen_of (at.Stale header) = Stale header

-- what is learned of a record: the record that is returned, and its content
pub record Lesson : Type 0 where
  pub reported : Record
  pub content : Content

-- a payload in a vector, or none where it is a trim, as a content
abbrev pub content_of : Option (Vec ℕ Global) → Content
content_of None = Trim
content_of (Some payload) = Payload payload.items
