use Rattle.std.proofs.Common.{◌≡◌, ◌++◌}
use Rattle.map_join.specs.Maps.{Entries, at, IsListOf}
use Rattle.map_join.proofs.block_map.BlockMap.to_list.Given as goal

abbrev pub invariant-loop-number : goal.invariant-loop-number
invariant-loop-number l = (front : Entries) × (front ++ l.number-iterator ≡ l.self) × IsListOf (at front) l.list.items
