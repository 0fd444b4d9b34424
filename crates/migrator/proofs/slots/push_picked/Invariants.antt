use Rattle.std.proofs.Common.{◌+◌, ◌*◌}
use Rattle.map_join.specs.Lists.{ListsBelow}
use Rattle.migrator.specs.Picking.{IsPicked}
use Rattle.migrator.proofs.slots.push_picked.Given as goal

abbrev pub invariant-loop-index : goal.invariant-loop-index
invariant-loop-index g l =
    ListsBelow (IsPicked l.fn.class l.groups (g.P.Picks.group_is l.which) (g.P.Picks.slot_is l.which)) (128 * l.group + l.index) l.slots.items
