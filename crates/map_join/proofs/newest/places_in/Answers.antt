use Rattle.std.proofs.Common.{◌++◌, ◌∷◌, [], ◌∙◌, refl}
use Rattle.map_join.proofs.Fronts.{met_more, now_met}
use Rattle.map_join.proofs.Placing.{marks_none, marks_more}
use Rattle.map_join.proofs.newest.places_in.Goals as goal

pub loop-number-init : goal.loop-number-init
loop-number-init c = (
  [],
  c.into_iter-number-iterator.ensures.into_iter_gives ∙ c.iter-number-items.ensures.rest,
  marks_none c.no_marks-marks.result c.args.group c.no_marks-marks.ensures,
)

pub loop-number-preserved : goal.loop-number-preserved
loop-number-preserved c =
    let done = c.loop-number.invariant in
    let met = now_met c.args.pages.now.entries c.args.pages.now.entries done.0 _ c.next.new.self c.next.result c.in-Some._number c.in-Some.page refl c.iter-number-items.ensures.ordered done.1 c.in-Some.is c.next.ensures.steps in (
      done.0 ++ (c.in-Some._number.now, c.in-Some.page.now) ∷ [],
      met_more c.args.pages.now.entries done.0 c.in-Some._number.now c.in-Some.page.now c.next.new.self met,
      marks_more c.args.pages.now.entries done.0 c.in-Some._number.now c.in-Some.page.now c.next.new.self met c.lanes.result.now c.lanes.ensures.value
          c.args.group c.loop-number.marks c.mark_lanes.new.marks done.2 c.mark_lanes.ensures,
    )
