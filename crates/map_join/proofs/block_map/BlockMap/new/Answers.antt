use Rattle.map_join.proofs.Paged.{at_none, none_map}
use Rattle.map_join.proofs.block_map.BlockMap.new.Goals as goal

pub returns-clause-empty : goal.returns-clause-empty
returns-clause-empty c = rw c.new.ensures.empty at_none

pub returns-clause-map_of : goal.returns-clause-map_of
returns-clause-map_of c = rw c.new.ensures.empty none_map
