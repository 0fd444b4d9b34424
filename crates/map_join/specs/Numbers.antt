-- The numbers of the faults and refusals.
use Rattle.std.specs.Prelude.{ℕ}
use Rattle.map_join.specs.declared.records.RecordFault.{RecordFault}
use Rattle.map_join.specs.declared.records.RecordFault.TheVariants.{Length, ZeroVersion}
use Rattle.map_join.specs.declared.block_map.MapRefusal.{MapRefusal}
use Rattle.map_join.specs.declared.block_map.MapRefusal.TheVariants.{Memory}

-- why bytes are no record
abbrev pub fault_number : RecordFault → ℕ
fault_number Length = 1
fault_number ZeroVersion = 2

-- why a map did not grow
abbrev pub refusal_number : MapRefusal → ℕ
refusal_number Memory = 1
