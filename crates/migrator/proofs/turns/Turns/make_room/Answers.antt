use Rattle.std.proofs.Common.{◌∙◌, subst, sym, arith}
use Rattle.std.specs.Vec.{vec_capacity}
use Rattle.migrator.specs.Inside.{KeepsFront}
use Rattle.migrator.proofs.Turned.{count_kept, count_order}
use Rattle.migrator.proofs.turns.Turns.make_room.Goals as goal

pub returns-then-len-most-clause-room : goal.returns-then-len-most-clause-room
returns-then-len-most-clause-room c =
    let i = c.self.inside in
    omega (
      arith,
      count_order i.turns i.later.items (vec_capacity i.later) c.args.self.now c.self.invariant c.self.view_is,
      count_kept i.turns i.later.items c.args.self.now c.self.view_is,
      c.if-len-most.true,
      c.len.ensures,
      c.min-most.ensures,
      c.blocks-blocks.ensures.blocks,
    )

pub returns-clause-front : goal.returns-clause-front
returns-clause-front c =
    let i = c.self.inside in
    let counted = count_order i.turns i.later.items (vec_capacity i.later) c.args.self.now c.self.invariant c.self.view_is in
    subst (λ n. KeepsFront n c.args.self.now c.pack.new.self) (counted ∙ sym c.blocks-blocks.ensures.blocks) c.pack.ensures.front
