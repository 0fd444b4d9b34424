use Rattle.std.proofs.Common.{◌*◌}
use Rattle.map_join.specs.Lists.{ListsBelow}
use Rattle.migrator.specs.Picking.{IsPicked}
use Rattle.migrator.proofs.slots.push_row.Given as goal

abbrev pub invariant-loop-group : goal.invariant-loop-group
invariant-loop-group g l =
    ListsBelow (IsPicked l.class l.groups (g.P.Picks.group_is l.which) (g.P.Picks.slot_is l.which)) (128 * l.group) l.slots.items
