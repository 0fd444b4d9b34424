use Rattle.map_join.proofs.Joins.{taken}
use Rattle.map_join.proofs.block_map.BlockMap.take.Goals as goal

pub returns-clause-map_of : goal.returns-clause-map_of
returns-clause-map_of c = taken c.raise.result c.args.record c.key.result _ _ c.key.ensures.value c.raise.ensures.ok
