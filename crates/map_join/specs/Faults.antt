-- When bytes are no record.
use Rattle.std.specs.Prelude.{◌≡◌, ◌≢◌, ℕ, List, length, drop}
use Rattle.byteorder.specs.Endian.{big_number}
use Rattle.map_join.specs.declared.records.RecordFault.{RecordFault}
use Rattle.map_join.specs.declared.records.RecordFault.TheVariants.{Length, ZeroVersion}

-- why these bytes are no record: they aren't twelve, or they are and spell version 0
abbrev pub IsNoRecord : List ℕ → RecordFault → Type 0
IsNoRecord bytes Length = length bytes ≢ 12
IsNoRecord bytes ZeroVersion = (length bytes ≡ 12) × (big_number 4 (drop 4 bytes) ≡ 0)
