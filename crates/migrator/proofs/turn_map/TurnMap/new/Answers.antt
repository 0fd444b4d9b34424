use Rattle.migrator.proofs.Written.{turns_of_none}
use Rattle.migrator.proofs.turn_map.TurnMap.new.Goals as goal

pub returns : goal.returns
returns c = turns_of_none c.args.blocks c.in_ok-with_capacity_and_hasher.field-0 c.in_ok-with_capacity_and_hasher.ensures.empty
