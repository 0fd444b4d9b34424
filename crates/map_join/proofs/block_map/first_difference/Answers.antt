use Rattle.std.proofs.Common.{◌++◌, ◌∷◌, [], ◌∙◌, refl}
use Rattle.map_join.specs.Maps.{at, find, lanes_of}
use Rattle.map_join.proofs.Fronts.{met_more, now_met}
use Rattle.map_join.proofs.Differing.{shared_none, shared_more, differs_here, lanes_same, lanes_differ}
use Rattle.map_join.proofs.Merging.{number_met}
use Rattle.map_join.proofs.block_map.first_difference.Goals as goal

pub loop-number-init : goal.loop-number-init
loop-number-init c = ([], c.into_iter-number-iterator.ensures.into_iter_gives ∙ c.iter-number-items.ensures.rest, shared_none (at c.args.theirs.now.entries))

pub block_of-requires-clause-number : goal.block_of-requires-clause-number
block_of-requires-clause-number c =
    let done = c.loop-number.invariant in
    let met = now_met c.args.ours.now.entries c.args.ours.now.entries done.0 _ c.next.new.self c.next.result c.in-Some.number c.in-Some.page refl c.iter-number-items.ensures.ordered done.1 c.in-Some.is c.next.ensures.steps in
    number_met c.args.ours.now.entries done.0 c.in-Some.number.now c.in-Some.page.now c.next.new.self met c.requires

pub returns-in-Some-differing_lane : goal.returns-in-Some-differing_lane
returns-in-Some-differing_lane c =
    let done = c.loop-number.invariant in
    let met = now_met c.args.ours.now.entries c.args.ours.now.entries done.0 _ c.next.new.self c.next.result c.in-Some.number c.in-Some.page refl c.iter-number-items.ensures.ordered done.1 c.in-Some.is c.next.ensures.steps in
    rw c.block_of.ensures (differs_here c.args.ours.now.entries done.0 c.in-Some.number.now c.in-Some.page.now c.next.new.self met c.args.theirs.now.entries
    c.in-Some-differing_lane.lane c.in-Some-differing_lane.ensures.low done.2
    (lanes_differ c.in-Some.page.now c.lanes.result.now c.lanes_in.result.now (lanes_of (find c.args.theirs.now.entries c.in-Some.number.now)) c.lanes.ensures.value c.lanes_in.ensures.value
    c.in-Some-differing_lane.lane c.in-Some-differing_lane.ensures.first))

pub loop-number-preserved : goal.loop-number-preserved
loop-number-preserved c =
    let done = c.loop-number.invariant in
    let met = now_met c.args.ours.now.entries c.args.ours.now.entries done.0 _ c.next.new.self c.next.result c.in-Some.number c.in-Some.page refl c.iter-number-items.ensures.ordered done.1 c.in-Some.is c.next.ensures.steps in (
      done.0 ++ (c.in-Some.number.now, c.in-Some.page.now) ∷ [],
      met_more c.args.ours.now.entries done.0 c.in-Some.number.now c.in-Some.page.now c.next.new.self met,
      shared_more c.args.ours.now.entries done.0 c.in-Some.number.now c.in-Some.page.now c.next.new.self met c.args.theirs.now.entries done.2
          (lanes_same c.in-Some.page.now c.lanes.result.now c.lanes_in.result.now (lanes_of (find c.args.theirs.now.entries c.in-Some.number.now)) c.lanes.ensures.value c.lanes_in.ensures.value
          c.in_default.ensures.first),
    )
