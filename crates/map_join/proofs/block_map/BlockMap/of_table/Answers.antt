use Rattle.std.proofs.Common.{sym}
use Rattle.map_join.specs.Maps.{at}
use Rattle.map_join.specs.Pages.{HasKey}
use Rattle.map_join.proofs.Tabled.{part, tabled_page, tabled_blank, table_page, all_zero, part_key, table_key}
use Rattle.map_join.proofs.block_map.BlockMap.of_table.Goals as goal

pub loop-number-preserved-then-has_none : goal.loop-number-preserved-then-has_none
loop-number-preserved-then-has_none c =
    let own = table_page c.args.keys.now c.loop-number.number c.min.result c.min.ensures in
    tabled_blank c.args.keys.now (part c.args.keys.now c.loop-number.number c.min.result) c.loop-number.number (at c.loop-number.map) own
    (all_zero (part c.args.keys.now c.loop-number.number c.min.result) (sym c.if-has_none.ensures)) c.loop-number.invariant

pub put_table-requires-clause-some : goal.put_table-requires-clause-some
put_table-requires-clause-some c = part_key c.args.keys.now c.loop-number.number c.min.result c.min.ensures (sym c.if-has_none.ensures)

pub returns-in_default-clause-there : goal.returns-in_default-clause-there
returns-in_default-clause-there c none =
    let some : HasKey (part c.args.keys.now c.loop-number.number c.min.result) = part_key c.args.keys.now c.loop-number.number c.min.result c.min.ensures (sym c.if-has_none.ensures) in
    table_key c.args.keys.now c.loop-number.number c.min.result c.min.ensures some none

pub loop-number-preserved : goal.loop-number-preserved
loop-number-preserved c =
    let own = table_page c.args.keys.now c.loop-number.number c.min.result c.min.ensures in
    tabled_page c.args.keys.now (part c.args.keys.now c.loop-number.number c.min.result) c.loop-number.number (at c.loop-number.map) (at c.put_table.new.self) own
    c.in-Ok.ensures c.loop-number.invariant
