use Rattle.std.proofs.Common.{rules, subst}
use Rattle.slot_tables.specs.Views.{IsWhole}
use Rattle.flat_machine.proofs.Newest.{map_as}
use Rattle.slot_tables.proofs.Newest.{map_whole}
use Rattle.disk_array.proofs.array.Array.map.Goals as goal

pub loop-block-init : goal.loop-block-init
loop-block-init g c = search rules

pub returns-clause-ok : goal.returns-clause-ok
returns-clause-ok g c =
    let whole = subst IsWhole c.self.view_is c.self.invariant.0 in
    map_whole c.args.self.now _ c.loop-block.block whole.room (search rules) c.loop-block.invariant.before c.loop-block.invariant.rest

pub returns-clause-flat : goal.returns-clause-flat
returns-clause-flat g c F shows = map_as F.emitted _ _ (returns-clause-ok g c) shows.history.map
