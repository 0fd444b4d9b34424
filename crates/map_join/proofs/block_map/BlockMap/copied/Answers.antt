use Rattle.std.proofs.Common.{false}
use Rattle.map_join.proofs.Merging.{first_there}
use Rattle.map_join.proofs.block_map.BlockMap.copied.Goals as goal

pub returns-in-Err-clause-there : goal.returns-in-Err-clause-there
returns-in-Err-clause-there c none = first_there c.args.self.now c.self.inside.pages.entries false c.self.view_is (λ _. c.in-Err.ensures.err) none
