use Rattle.std.proofs.Common.{◌++◌, ◌∷◌, [], ◌∙◌, refl, subst, slice_index}
use Rattle.map_join.specs.Maps.{Lanes}
use Rattle.map_join.specs.Marks.{IsPlacedAt, IsPlacedBelow}
use Rattle.map_join.proofs.Fronts.{met_more, now_met}
use Rattle.map_join.proofs.Merging.{number_met}
use Rattle.map_join.proofs.Placing.{none_placed, placed_here, not_placed}
use Rattle.map_join.proofs.newest.placed_at.Goals as goal

pub loop-number-init : goal.loop-number-init
loop-number-init c = ([], c.into_iter-number-iterator.ensures.into_iter_gives ∙ c.iter-number-items.ensures.rest, none_placed c.args.slot)

pub block_of-requires-clause-number : goal.block_of-requires-clause-number
block_of-requires-clause-number c =
    let done = c.loop-number.invariant in
    let met = now_met c.args.pages.now.entries c.args.pages.now.entries done.0 _ c.next.new.self c.next.result c.in-Some.number c.in-Some.page refl c.iter-number-items.ensures.ordered done.1 c.in-Some.is c.next.ensures.steps in
    number_met c.args.pages.now.entries done.0 c.in-Some.number.now c.in-Some.page.now c.next.new.self met c.requires

pub returns-in-Some-placed_lane : goal.returns-in-Some-placed_lane
returns-in-Some-placed_lane c =
    let done = c.loop-number.invariant in
    let met = now_met c.args.pages.now.entries c.args.pages.now.entries done.0 _ c.next.new.self c.next.result c.in-Some.number c.in-Some.page refl c.iter-number-items.ensures.ordered done.1 c.in-Some.is c.next.ensures.steps in
    rw c.block_of.ensures (placed_here c.args.pages.now.entries done.0 c.in-Some.number.now c.in-Some.page.now c.next.new.self met c.args.slot c.in-Some-placed_lane.lane c.in-Some-placed_lane.ensures.low
    (subst (λ (xs : Lanes). IsPlacedAt (slice_index xs) c.args.slot c.in-Some-placed_lane.lane) c.lanes.ensures.value c.in-Some-placed_lane.ensures.at))

pub loop-number-preserved : goal.loop-number-preserved
loop-number-preserved c =
    let done = c.loop-number.invariant in
    let met = now_met c.args.pages.now.entries c.args.pages.now.entries done.0 _ c.next.new.self c.next.result c.in-Some.number c.in-Some.page refl c.iter-number-items.ensures.ordered done.1 c.in-Some.is c.next.ensures.steps in (
      done.0 ++ (c.in-Some.number.now, c.in-Some.page.now) ∷ [],
      met_more c.args.pages.now.entries done.0 c.in-Some.number.now c.in-Some.page.now c.next.new.self met,
      not_placed c.args.pages.now.entries done.0 c.in-Some.number.now c.in-Some.page.now c.next.new.self met c.args.slot done.2
          (subst (λ (xs : Lanes). IsPlacedBelow 64 (slice_index xs) c.args.slot → ⊥) c.lanes.ensures.value c.in_default.ensures.at),
    )
