use Rattle.std.proofs.Common.{◌∙◌, sym, subst, ap, arith}
use Rattle.std.specs.Vec.{vec_capacity}
use Rattle.migrator.specs.Inside.{IsFirstByNumber}
use Rattle.migrator.proofs.Turned.{count_kept, count_order, first_by}
use Rattle.migrator.proofs.turns.Turns.len.Goals as goal

pub returns-clause-len : goal.returns-clause-len
returns-clause-len c =
    let i = c.self.inside in
    omega (arith, count_kept i.turns i.later.items c.args.self.now c.self.view_is, c.blocks-2.ensures.blocks, c.len.ensures)

pub returns-clause-all : goal.returns-clause-all
returns-clause-all c =
    let i = c.self.inside in
    sym (ap (λ o. o.blocks) c.self.view_is) ∙ sym (count_order i.turns i.later.items (vec_capacity i.later) c.args.self.now c.self.invariant c.self.view_is)

pub returns-clause-first : goal.returns-clause-first
returns-clause-first c = subst IsFirstByNumber c.self.view_is (first_by c.self.inside.turns c.self.inside.later.items)
