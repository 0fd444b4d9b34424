use Rattle.std.proofs.Common.{◌≡◌, []}
use Rattle.slot_tables.specs.Represents.{ShowsArray}
use Rattle.flat_machine.specs.Flat.{Flat}
use Rattle.storm.proofs.setting.storm_array.Given as goal

-- the array shows a state, has its sizes, and no record
abbrev pub invariant-loop-class : goal.invariant-loop-class
invariant-loop-class g l = ((F : Flat) × ShowsArray l.array F) × (l.array.parts.groups.blocks ≡ 16) × (l.array.parts.groups.payload ≡ l.payload) × (l.array.log ≡ [])
