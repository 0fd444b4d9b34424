use Rattle.std.proofs.Common.{◌++◌, ◌∙◌, length, sym, arith}
use Rattle.std.specs.Vec.{vec_capacity}
use Rattle.migrator.specs.Inside.{first_turns}
use Rattle.migrator.proofs.Turned.{count_order, only_turn}
use Rattle.migrator.proofs.turns.Turns.turn_of.Goals as goal

pub turn_of-requires : goal.turn_of-requires
turn_of-requires c =
    let i = c.self.inside in
    omega (arith, count_order i.turns i.later.items (vec_capacity i.later) c.args.self.now c.self.invariant c.self.view_is, c.requires)

pub returns-clause-only : goal.returns-clause-only
returns-clause-only c =
    let i = c.self.inside in
    let counted = count_order i.turns i.later.items (vec_capacity i.later) c.args.self.now c.self.invariant c.self.view_is in
    rw (← c.self.view_is) (λ k l e.
    only_turn (length i.turns) (first_turns i.turns ++ i.later.items) i.turns c.self.invariant.at c.args.block (omega (arith, counted, c.requires)) k l e
    ∙ sym c.turn_of.ensures)
