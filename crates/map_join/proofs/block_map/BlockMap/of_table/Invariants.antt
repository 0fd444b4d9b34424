use Rattle.map_join.specs.Maps.{at}
use Rattle.map_join.proofs.Tabled.{IsTabled}
use Rattle.map_join.proofs.block_map.BlockMap.of_table.Given as goal

abbrev pub invariant-loop-number : goal.invariant-loop-number
invariant-loop-number l = IsTabled l.keys l.number (at l.map)
