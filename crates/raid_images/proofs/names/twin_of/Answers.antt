use Rattle.std.proofs.Common.{◌≡◌, ◌<◌, length, subst, arith, rules}
use Rattle.raid_images.specs.Names.{AreOne, AreTwins}
use Rattle.raid_images.proofs.Firsts.{at_index, same_at, none_next}
use Rattle.raid_images.proofs.names.twin_of.Goals as goal

pub returns-then-are_one-clause-some : goal.returns-then-are_one-clause-some
returns-then-are_one-clause-some c = record {
  order = c.loop-lower-test.true;
  first = c.index-spots-lower.result;
  second = c.index-spots-higher.result;
  first_at = at_index c.args.spots.now c.loop-lower.lower c.index-spots-lower.result (omega (arith, c.loop-lower-test.true, c.requires)) c.index-spots-lower.is;
  second_at = at_index c.args.spots.now c.args.higher c.index-spots-higher.result c.requires c.index-spots-higher.is;
  one = c.are_one.ensures.0 c.if-are_one.true;
}

pub loop-lower-preserved : goal.loop-lower-preserved
loop-lower-preserved c = none_next (λ k. AreTwins c.args.spots.now k c.args.higher) c.loop-lower.lower c.loop-lower.invariant
    (λ twins.
    let low : c.loop-lower.lower < length c.args.spots.now = omega (arith, c.loop-lower-test.true, c.requires) in
    let first = same_at c.args.spots.now c.loop-lower.lower twins.first c.index-spots-lower.result twins.first_at
    (at_index c.args.spots.now c.loop-lower.lower c.index-spots-lower.result low c.index-spots-lower.is) in
    let second = same_at c.args.spots.now c.args.higher twins.second c.index-spots-higher.result twins.second_at
    (at_index c.args.spots.now c.args.higher c.index-spots-higher.result c.requires c.index-spots-higher.is) in
    let yes = c.are_one.ensures.1 (subst (λ s. AreOne s c.index-spots-higher.result) first (subst (λ s. AreOne twins.first s) second twins.one)) in
    absurd (search (rules, yes, c.if-are_one.false)))

pub returns-clause-none : goal.returns-clause-none
returns-clause-none c = λ k twins. c.loop-lower.invariant k (omega (arith, twins.order, c.loop-lower-test.false, c.loop-lower.auto.lower-end)) twins
