use Rattle.map_join.specs.Maps.{at}
use Rattle.map_join.proofs.Differing.{lowest}
use Rattle.map_join.proofs.block_map.BlockMap.lowest_difference.Goals as goal

pub returns : goal.returns
returns c = rw (c.lower.ensures, ← c.self.view_is, ← c.other.view_is)
    (lowest (at c.self.inside.pages.entries) (at c.other.inside.pages.entries) c.first_difference-ours.result c.first_difference-theirs.result
    c.first_difference-ours.ensures c.first_difference-theirs.ensures)
