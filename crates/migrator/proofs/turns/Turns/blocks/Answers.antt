use Rattle.std.proofs.Common.{◌∙◌, sym}
use Rattle.std.specs.Vec.{vec_capacity}
use Rattle.migrator.proofs.Turned.{count_order}
use Rattle.migrator.proofs.turns.Turns.blocks.Goals as goal

pub returns-clause-all : goal.returns-clause-all
returns-clause-all c =
    let i = c.self.inside in
    c.blocks-2.ensures.blocks ∙ sym (count_order i.turns i.later.items (vec_capacity i.later) c.args.self.now c.self.invariant c.self.view_is)
