use Rattle.std.proofs.Common.{◌≡◌, ◌++◌}
use Rattle.map_join.specs.Maps.{Entries, at, IsSame, join}
use Rattle.map_join.proofs.block_map.BlockMap.merge.Given as goal

abbrev pub invariant-loop-number : goal.invariant-loop-number
invariant-loop-number l = (front : Entries) × (front ++ l.number-iterator ≡ l.other) × IsSame (at l.self) (join (at l.initial.self) (at front))
