use Rattle.std.proofs.Common.{◌+◌, ◌*◌, ◌∙◌, ap, arith, subst, Vec, Global}
use Rattle.map_join.specs.declared.records.Record.{Record}
use Rattle.map_join.specs.Pages.{IsListBelow}
use Rattle.map_join.proofs.Listing.{reported_lane, lane_more, lane_skip}
use Rattle.map_join.proofs.block_map.list_page.Goals as goal
use Rattle.map_join.proofs.block_map.list_page.Goals.{in-Some+in_ok-push, in_default}

pub loop-lane-preserved : goal.loop-lane-preserved
loop-lane-preserved c M own was =
    let before = c.loop-lane.invariant M own was in
    let reported = reported_lane M c.args.number c.loop-lane.lane c.args.keys.now c.block_of.result c.of_key.result own (omega arith) c.block_of.ensures c.of_key.ensures in
    elim c.match-of_key.branch [
      | in-Some+in_ok-push w ↦
          lane_more M (64 * c.args.number) c.loop-lane.lane c.loop-lane.list.items c.match-of_key.list.items w.in-Some.record
          (ap (λ (v : Vec Record Global). v.items) w.list-is ∙ w.in_ok-push.ensures.items) (reported ∙ w.in-Some.is) before
      | in_default w ↦
          lane_skip M (64 * c.args.number) c.loop-lane.lane c.loop-lane.list.items c.match-of_key.list.items
          (ap (λ (v : Vec Record Global). v.items) w.list-is) (reported ∙ w.in_default.is) before
    ]

pub returns : goal.returns
returns c M own was = subst (λ n. IsListBelow (64 * c.args.number + n) M c.loop-lane.list.items) (omega arith) (c.loop-lane.invariant M own was)
