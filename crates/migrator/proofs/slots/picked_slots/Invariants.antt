use Rattle.std.proofs.Common.{◌*◌}
use Rattle.map_join.specs.Lists.{ListsBelow}
use Rattle.migrator.specs.Picking.{IsPicked}
use Rattle.migrator.proofs.slots.picked_slots.Given as goal

abbrev pub invariant-loop-row : goal.invariant-loop-row
invariant-loop-row g l =
    ListsBelow (IsPicked l.class l.groups (g.P.Picks.group_is l.which) (g.P.Picks.slot_is l.which)) (2048 * l.row) l.slots.items
