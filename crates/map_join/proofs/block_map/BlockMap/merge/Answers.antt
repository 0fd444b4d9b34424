use Rattle.std.proofs.Common.{◌++◌, ◌∷◌, [], refl, sym, ◌∙◌, subst}
use Rattle.std.specs.Map.Iter.{deref_pair}
use Rattle.std.proofs.lemmas.Map.Iter.{rest_all}
use Rattle.map_join.specs.Maps.{at}
use Rattle.map_join.specs.Pages.{AreNumbers}
use Rattle.map_join.proofs.Fronts.{met_more, now_met}
use Rattle.map_join.proofs.Joins.{together}
use Rattle.map_join.proofs.Merging.{number_met, joined_none, joined_more, stopped_here, stopped_where, completed, all_joined, copied_join, copied_map, partly_where, partly_again, none_of}
use Rattle.map_join.proofs.block_map.BlockMap.merge.Goals as goal

pub loop-number-init : goal.loop-number-init
loop-number-init c = ([], c.into_iter-number-iterator.ensures.into_iter_gives ∙ c.iter-number-items.ensures.rest ∙ c.other.view_is, joined_none (at c.args.self.now))

pub join_page-requires : goal.join_page-requires
join_page-requires c =
    let done = c.loop-number.invariant in
    let met = now_met c.other.inside.pages.entries c.args.other.now done.0 _ c.next.new.self c.next.result c.in-Some.number c.in-Some.page c.other.view_is c.iter-number-items.ensures.ordered done.1 c.in-Some.is c.next.ensures.steps in
    number_met c.args.other.now done.0 c.in-Some.number.now c.in-Some.page.now c.next.new.self met (subst AreNumbers c.other.view_is c.other.invariant)

pub loop-number-preserved : goal.loop-number-preserved
loop-number-preserved c =
    let done = c.loop-number.invariant in
    let met = now_met c.other.inside.pages.entries c.args.other.now done.0 _ c.next.new.self c.next.result c.in-Some.number c.in-Some.page c.other.view_is c.iter-number-items.ensures.ordered done.1 c.in-Some.is c.next.ensures.steps in (
      done.0 ++ (c.in-Some.number.now, c.in-Some.page.now) ∷ [],
      met_more c.args.other.now done.0 c.in-Some.number.now c.in-Some.page.now c.next.new.self met,
      joined_more c.args.other.now done.0 c.in-Some.number.now c.in-Some.page.now c.next.new.self met (at c.args.self.now) (at c.loop-number.self) (at c.join_page.new.self) done.2 c.in-Ok.ensures.ok,
    )

pub returns-in-Err-clause-err : goal.returns-in-Err-clause-err
returns-in-Err-clause-err c =
    let done = c.loop-number.invariant in
    let met = now_met c.other.inside.pages.entries c.args.other.now done.0 _ c.next.new.self c.next.result c.in-Some.number c.in-Some.page c.other.view_is c.iter-number-items.ensures.ordered done.1 c.in-Some.is c.next.ensures.steps in
    stopped_here c.args.other.now done.0 c.in-Some.number.now c.in-Some.page.now c.next.new.self met (at c.args.self.now) c.loop-number.self c.join_page.new.self
    c.in-Err.ensures.some done.2 c.in-Err.ensures.err c.in-Err.ensures.absent

pub returns-in-Err-clause-there : goal.returns-in-Err-clause-there
returns-in-Err-clause-there c =
    let stop = returns-in-Err-clause-err c in
    stopped_where stop.0 (at c.args.self.now) (at c.args.other.now) (at c.join_page.new.self) stop.1

pub returns-in-Err-clause-again : goal.returns-in-Err-clause-again
returns-in-Err-clause-again c =
    let stop = returns-in-Err-clause-err c in
    completed stop.0 (at c.args.self.now) (at c.args.other.now) (at c.join_page.new.self) stop.1

pub returns-clause-ok : goal.returns-clause-ok
returns-clause-ok c =
    let done = c.loop-number.invariant in
    let none = rest_all deref_pair c.loop-number.number-iterator c.next.new.self c.next.result c.in-None.is c.next.ensures.steps in
    all_joined c.args.other.now done.0 c.loop-number.number-iterator (at c.args.self.now) (at c.loop-number.self) done.1 none done.2

pub returns-clause-map_of : goal.returns-clause-map_of
returns-clause-map_of c ours theirs our_map their_map =
    together ours theirs (at c.args.self.now) (at c.args.other.now) (at c.loop-number.self) (returns-clause-ok c) our_map their_map

-- a map without blocks
pub returns-then-is_empty-clause-ok : goal.returns-then-is_empty-clause-ok
returns-then-is_empty-clause-ok c =
    let none = sym c.self.view_is ∙ none_of c.self.inside.pages.entries (c.if-is_empty.ensures.0 refl) in
    copied_join c.take_over.result c.args.self.now c.args.other.now c.take_over.new.self none c.take_over.ensures.ok

pub returns-then-is_empty-clause-there : goal.returns-then-is_empty-clause-there
returns-then-is_empty-clause-there c =
    partly_where c.take_over.result (at c.args.self.now) (at c.args.other.now) (at c.take_over.new.self) c.take_over.ensures.partly

pub returns-then-is_empty-clause-again : goal.returns-then-is_empty-clause-again
returns-then-is_empty-clause-again c =
    partly_again c.take_over.result (at c.args.self.now) (at c.args.other.now) (at c.take_over.new.self) c.take_over.ensures.partly

pub returns-then-is_empty-clause-map_of : goal.returns-then-is_empty-clause-map_of
returns-then-is_empty-clause-map_of c =
    let none = sym c.self.view_is ∙ none_of c.self.inside.pages.entries (c.if-is_empty.ensures.0 refl) in
    copied_map c.take_over.result c.args.self.now c.args.other.now c.take_over.new.self none c.take_over.ensures.ok
