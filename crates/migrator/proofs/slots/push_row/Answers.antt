use Rattle.std.proofs.Common.{◌≡◌, ◌+◌, ◌*◌, arith, subst}
use Rattle.map_join.specs.Lists.{ListsBelow}
use Rattle.migrator.specs.Picking.{IsPicked}
use Rattle.migrator.proofs.slots.push_row.Goals as goal

pub returns : goal.returns
returns g c =
    let P = IsPicked c.args.class c.args.groups.now (g.P.Picks.group_is c.args.which.now) (g.P.Picks.slot_is c.args.which.now) in
    let end : 128 * c.loop-group.group ≡ 2048 * (c.args.row + 1) = omega (arith, c.loop-group-test.false, c.loop-group.auto.group-end (omega arith)) in
    subst (λ n. ListsBelow P n c.loop-group.slots.items) end c.loop-group.invariant
