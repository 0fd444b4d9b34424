use Rattle.std.specs.Vec.{vec_capacity}
use Rattle.migrator.proofs.Turned.{order_by_number, turns_by_number}
use Rattle.migrator.proofs.turns.Turns.new.Goals as goal

pub invariant_of-result : goal.invariant_of-result
invariant_of-result c =
    let ts = c.in_ok-new.field-0 in
    let later = c.in_ok-with_capacity.field-0 in
    turns_by_number c.args.blocks (vec_capacity later) ts later.items c.requires c.in_ok-with_capacity.ensures.capacity c.in_ok-new.ensures c.in_ok-with_capacity.ensures.items

pub returns : goal.returns
returns c =
    order_by_number c.args.blocks c.in_ok-new.field-0 c.in_ok-with_capacity.field-0.items c.in_ok-new.ensures c.in_ok-with_capacity.ensures.items
