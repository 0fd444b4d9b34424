use Rattle.migrator.proofs.Written.{length_turns}
use Rattle.migrator.proofs.turn_map.TurnMap.blocks.Goals as goal

pub returns-clause-blocks : goal.returns-clause-blocks
returns-clause-blocks c = length_turns c.self.inside.blocks c.self.inside.written c.args.self.now c.self.view_is
