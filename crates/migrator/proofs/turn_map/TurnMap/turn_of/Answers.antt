use Rattle.std.proofs.Common.{Some, None}
use Rattle.migrator.proofs.Written.{read_turn}
use Rattle.migrator.proofs.turn_map.TurnMap.turn_of.Goals as goal

pub returns-in-Some : goal.returns-in-Some
returns-in-Some c =
    let i = c.self.inside in
    read_turn i.blocks c.args.block i.written c.args.self.now (Some c.in-Some.turn.now) c.self.view_is c.requires c.in-Some.ensures.value

pub returns-in-None : goal.returns-in-None
returns-in-None c =
    let i = c.self.inside in
    read_turn i.blocks c.args.block i.written c.args.self.now None c.self.view_is c.requires c.in-None.ensures.value
