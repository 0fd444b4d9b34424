use Rattle.std.proofs.Common.{slice_index, arith}
use Rattle.map_join.specs.Maps.{IsSame}
use Rattle.map_join.proofs.Lanes.{copied_none, copied_more, copied_all, same_page}
use Rattle.map_join.proofs.page.Page.of_table.Goals as goal

pub loop-lane-init : goal.loop-lane-init
loop-lane-init c = copied_none c.args.table.now

pub loop-lane-preserved : goal.loop-lane-preserved
loop-lane-preserved c = copied_more c.loop-lane.lane c.args.table.now c.loop-lane.keys (omega arith) c.loop-lane.invariant

pub returns : goal.returns
returns c = rw c.in_ok-new.ensures.ok (copied_all c.loop-lane.lane c.args.table.now c.loop-lane.keys (omega arith) c.loop-lane.invariant)

pub invariant_of-result : goal.invariant_of-result
invariant_of-result c =
    let same : IsSame (slice_index c.in_ok-new.field-0.value) (slice_index c.args.table.now) = returns c in
    same_page c.in_ok-new.field-0.value c.args.table.now same c.requires.written c.requires.some
