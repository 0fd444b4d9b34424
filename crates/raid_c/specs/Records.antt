-- Records as C sees them, and what calls on them return.
use Rattle.std.specs.Prelude.{◌≡◌, ℕ, ◌<◌, List, Some, None}
use Rattle.map_join.specs.declared.records.Record.{Record}
use Rattle.map_join.specs.declared.records.RecordFault.TheVariants.{Length, ZeroVersion}
use Rattle.map_join.specs.Record.{Spells, record_bytes, record_at}
use Rattle.map_join.specs.Faults.{IsNoRecord}
use Rattle.raid_c.specs.declared.record.StampedRecord.{StampedRecord}
use Rattle.raid_c.specs.declared.status.Status.{Status}
use Rattle.raid_c.specs.declared.status.Status.TheVariants as is

-- the record with the fields that C sees
abbrev pub as_record : StampedRecord → Record
as_record seen = record { block = seen.block; version = seen.version; hop = seen.hop; place = seen.place }

-- the bytes are those of the record, which they spell; a record of version 0 has none, and the bytes stay
abbrev pub EncodesRecord : Status → StampedRecord → List ℕ → List ℕ → Type 0
EncodesRecord is.Done seen old new = (0 < seen.version) × (new ≡ record_bytes (as_record seen)) × Spells new (as_record seen)
EncodesRecord is.Version seen old new = (seen.version ≡ 0) × (new ≡ old)
EncodesRecord _ seen old new = ⊥

-- the bytes spell the record; where they are no record, it stays
abbrev pub DecodesRecord : Status → List ℕ → StampedRecord → StampedRecord → Type 0
DecodesRecord is.Done bytes old new = Spells bytes (as_record new) × (0 < new.version)
DecodesRecord is.Length bytes old new = IsNoRecord bytes Length × (new ≡ old)
DecodesRecord is.Version bytes old new = IsNoRecord bytes ZeroVersion × (new ≡ old)
DecodesRecord _ bytes old new = ⊥

-- the record of a block has the key; where no record has it, the record stays
abbrev pub HasRecordKey : Status → ℕ → ℕ → StampedRecord → StampedRecord → Type 0
HasRecordKey is.Done block key old new = record_at block key ≡ Some (as_record new)
HasRecordKey is.Version block key old new = (record_at block key ≡ None) × (new ≡ old)
HasRecordKey _ block key old new = ⊥
