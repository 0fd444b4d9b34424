use Rattle.std.proofs.Common.{◌≡◌, ◌+◌, ◌*◌, ◌/◌, arith, subst}
use Rattle.map_join.specs.Lists.{ListsBelow}
use Rattle.map_join.proofs.Rising.{below_skip}
use Rattle.migrator.specs.Picking.{IsPicked}
use Rattle.migrator.proofs.Picks.{all_low}
use Rattle.migrator.proofs.slots.picked_slots.Goals as goal
use Rattle.migrator.proofs.slots.picked_slots.Goals.{then-may_have+in_ok-push_row, else-may_have}

pub loop-row-preserved : goal.loop-row-preserved
loop-row-preserved g c =
    let P = IsPicked c.args.class c.args.groups.now (g.P.Picks.group_is c.args.which.now) (g.P.Picks.slot_is c.args.which.now) in
    elim c.if-may_have.branch [
      | then-may_have+in_ok-push_row w ↦ rw (w.slots-is) w.in_ok-push_row.ensures
      | else-may_have w ↦ rw (w.slots-is)
          (below_skip P (2048 * c.loop-row.row) (2048 * (c.loop-row.row + 1)) c.loop-row.slots.items (omega arith)
          (λ s low high p. c.may_have.ensures.none w.if-may_have.false (s / 128) (omega (arith, low, high)) p.slot_of.made) c.loop-row.invariant)
    ]

pub returns : goal.returns
returns g c =
    let P = IsPicked c.args.class c.args.groups.now (g.P.Picks.group_is c.args.which.now) (g.P.Picks.slot_is c.args.which.now) in
    let end : 2048 * c.loop-row.row ≡ 128 * 512 = omega (arith, c.loop-row-test.false, c.loop-row.auto.row-end) in
    all_low c.args.class c.args.groups.now (g.P.Picks.group_is c.args.which.now) (g.P.Picks.slot_is c.args.which.now) 512 c.loop-row.slots.items
    c.members-members.ensures.groups.numbers (omega arith) (subst (λ n. ListsBelow P n c.loop-row.slots.items) end c.loop-row.invariant)
