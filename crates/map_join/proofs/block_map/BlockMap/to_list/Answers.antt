use Rattle.std.proofs.Common.{◌++◌, ◌∷◌, [], ◌∙◌, sym, arith, subst}
use Rattle.map_join.specs.Maps.{Lanes, at}
use Rattle.map_join.specs.Pages.{AreNumbers, IsPageOf}
use Rattle.map_join.proofs.Fronts.{met_more, met_page, now_met}
use Rattle.map_join.proofs.Listing.{list_none, list_start, list_end, page_of}
use Rattle.map_join.proofs.Merging.{number_met, some_at}
use Rattle.map_join.proofs.block_map.BlockMap.to_list.Goals as goal

pub loop-number-init : goal.loop-number-init
loop-number-init c = (
  [],
  c.into_iter-number-iterator.ensures.into_iter_gives ∙ c.iter-number-items.ensures.rest ∙ c.self.view_is,
  rw c.new-list.ensures.items list_none,
)

pub list_page-requires : goal.list_page-requires
list_page-requires c =
    let done = c.loop-number.invariant in
    let met = now_met c.self.inside.pages.entries c.args.self.now done.0 _ c.next.new.self c.next.result c.in-Some.number c.in-Some.page c.self.view_is c.iter-number-items.ensures.ordered done.1 c.in-Some.is c.next.ensures.steps in
    number_met c.args.self.now done.0 c.in-Some.number.now c.in-Some.page.now c.next.new.self met (subst AreNumbers c.self.view_is c.self.invariant)

pub loop-number-preserved : goal.loop-number-preserved
loop-number-preserved c =
    let done = c.loop-number.invariant in
    let met = now_met c.self.inside.pages.entries c.args.self.now done.0 _ c.next.new.self c.next.result c.in-Some.number c.in-Some.page c.self.view_is c.iter-number-items.ensures.ordered done.1 c.in-Some.is c.next.ensures.steps in (
      done.0 ++ (c.in-Some.number.now, c.in-Some.page.now) ∷ [],
      met_more c.args.self.now done.0 c.in-Some.number.now c.in-Some.page.now c.next.new.self met,
      list_end c.args.self.now done.0 c.in-Some.number.now c.in-Some.page.now c.next.new.self met c.list_page.new.list.items
          (c.in-Ok.ensures (at c.args.self.now) (subst (λ (xs : Lanes). IsPageOf (at c.args.self.now) c.in-Some.number.now xs) (sym c.lanes.ensures.value) (page_of c.args.self.now done.0 c.in-Some.number.now c.in-Some.page.now c.next.new.self met))
          (list_start c.args.self.now done.0 c.in-Some.number.now c.in-Some.page.now c.next.new.self met c.loop-number.list.items done.2)),
    )

pub returns-in-Err-clause-there : goal.returns-in-Err-clause-there
returns-in-Err-clause-there c none =
    let done = c.loop-number.invariant in
    let met = now_met c.self.inside.pages.entries c.args.self.now done.0 _ c.next.new.self c.next.result c.in-Some.number c.in-Some.page c.self.view_is c.iter-number-items.ensures.ordered done.1 c.in-Some.is c.next.ensures.steps in
    let some = some_at c.args.self.now c.in-Some.number.now c.in-Some.page.now (met_page c.args.self.now done.0 c.in-Some.number.now c.in-Some.page.now c.next.new.self met) c.lanes.ensures.some in
    let above = some.1 in
    let z = none some.0 in
    absurd (omega arith)
