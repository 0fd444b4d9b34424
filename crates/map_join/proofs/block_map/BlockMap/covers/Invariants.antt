use Rattle.std.proofs.Common.{◌≡◌, ◌++◌}
use Rattle.map_join.specs.Maps.{Entries, at, IsBelow}
use Rattle.map_join.proofs.block_map.BlockMap.covers.Given as goal

abbrev pub invariant-loop-number : goal.invariant-loop-number
invariant-loop-number l = (front : Entries) × (front ++ l.number-iterator ≡ l.other) × IsBelow (at front) (at l.self)
