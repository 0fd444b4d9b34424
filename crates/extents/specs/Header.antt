-- The header of a unit against its 32 bytes.
use Rattle.std.specs.Prelude.{◌≡◌, ℕ, ◌<◌, Option, Some, None, List, replicate}
use Rattle.map_join.specs.declared.records.Record.{Record}
use Rattle.map_join.specs.Record.{IsRecord}
use Rattle.extents.specs.Stamp.{SpellsRecord, ReportsKind, stamped_bytes}
use Rattle.extents.specs.declared.header.Kind.{Kind}
use Rattle.extents.specs.declared.header.Kind.TheVariants.{Data}
use Rattle.extents.specs.declared.header.Header.{Header}
use Rattle.extents.specs.declared.header.Header.TheVariants.{Blank, Is}
use Rattle.extents.specs.declared.header.HeaderFault.{HeaderFault}
use Rattle.extents.specs.declared.header.HeaderFault.TheVariants.{BadHeader}

-- the bytes spell the header: 32 zeros for a blank one, else its record, and its kind in either layout
abbrev pub Spells : List ℕ → Header → Type 0
Spells bytes Blank = bytes ≡ replicate 32 0
Spells bytes (Is r kind) = SpellsRecord bytes r × ReportsKind bytes kind

-- a header that a commit may write: its version is at least 1
abbrev pub IsCommittable : Header → Type 0
IsCommittable Blank = Unit {0}
IsCommittable (Is r kind) = 0 < r.version

-- the 32 bytes of a header as it is written, in the second layout
abbrev pub header_bytes : Header → List ℕ
header_bytes Blank = replicate 32 0
header_bytes (Is r kind) = stamped_bytes r kind

-- the record of a header, none of a blank one
abbrev pub record_in : Header → Option Record
record_in Blank = None
record_in (Is r kind) = Some r

-- what the unit's payload is: data under a blank header, else as the header says
abbrev pub kind_in : Header → Kind
kind_in Blank = Data
kind_in (Is r kind) = kind

-- a header that bytes can spell: its record's fields are in their ranges, and its version is at least 1
abbrev pub IsHeader : Header → Type 0
IsHeader Blank = Unit {0}
IsHeader (Is r kind) = IsRecord r

-- the number of a fault
abbrev pub fault_number : HeaderFault → ℕ
fault_number BadHeader = 1
