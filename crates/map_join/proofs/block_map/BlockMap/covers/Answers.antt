use Rattle.std.proofs.Common.{◌++◌, ◌∷◌, [], ◌∙◌}
use Rattle.map_join.specs.Maps.{at}
use Rattle.map_join.proofs.Fronts.{met_more, now_met}
use Rattle.map_join.proofs.Merging.{below_next, lanes_le, below_none}
use Rattle.map_join.proofs.block_map.BlockMap.covers.Goals as goal

pub loop-number-init : goal.loop-number-init
loop-number-init c = ([], c.into_iter-number-iterator.ensures.into_iter_gives ∙ c.iter-number-items.ensures.rest ∙ c.other.view_is, below_none (at c.args.self.now))

pub returns-then-not-covers_lanes : goal.returns-then-not-covers_lanes
returns-then-not-covers_lanes c =
    let done = c.loop-number.invariant in
    let met = now_met c.other.inside.pages.entries c.args.other.now done.0 _ c.next.new.self c.next.result c.in-Some.number c.in-Some.page c.other.view_is c.iter-number-items.ensures.ordered done.1 c.in-Some.is c.next.ensures.steps in (
      (λ t. absurd (cc)),
      (λ below.
          let all = c.covers_lanes.ensures.1 (lanes_le c.args.other.now done.0 c.in-Some.number.now c.in-Some.page.now c.next.new.self met c.self.inside.pages.entries c.args.self.now
          c.lanes.result.now c.lanes_in.result.now c.self.view_is c.lanes.ensures.value c.lanes_in.ensures.value below) in
          absurd (cc)),
    )

pub loop-number-preserved : goal.loop-number-preserved
loop-number-preserved c =
    let done = c.loop-number.invariant in
    let met = now_met c.other.inside.pages.entries c.args.other.now done.0 _ c.next.new.self c.next.result c.in-Some.number c.in-Some.page c.other.view_is c.iter-number-items.ensures.ordered done.1 c.in-Some.is c.next.ensures.steps in (
      done.0 ++ (c.in-Some.number.now, c.in-Some.page.now) ∷ [],
      met_more c.args.other.now done.0 c.in-Some.number.now c.in-Some.page.now c.next.new.self met,
      below_next c.args.other.now done.0 c.in-Some.number.now c.in-Some.page.now c.next.new.self met c.self.inside.pages.entries c.args.self.now
          c.lanes.result.now c.lanes_in.result.now c.self.view_is c.lanes.ensures.value c.lanes_in.ensures.value done.2 (c.covers_lanes.ensures.0 (cc)),
    )
