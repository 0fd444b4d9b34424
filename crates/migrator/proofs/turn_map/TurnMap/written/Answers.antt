use Rattle.std.proofs.Common.{arith}
use Rattle.migrator.proofs.Written.{count_written, length_turns}
use Rattle.migrator.proofs.turn_map.TurnMap.written.Goals as goal

pub returns : goal.returns
returns c =
    let i = c.self.inside in
    omega (arith, count_written i.blocks i.written c.self.invariant, length_turns i.blocks i.written c.args.self.now c.self.view_is, c.len.ensures)
