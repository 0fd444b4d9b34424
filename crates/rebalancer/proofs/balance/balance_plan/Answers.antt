use Rattle.std.proofs.Common.{sym, ◌∙◌}
use Rattle.rebalancer.proofs.Squares.{evens}
use Rattle.rebalancer.proofs.Pairs.{is_shift}
use Rattle.rebalancer.proofs.balance.balance_plan.Goals as goal

pub returns-clause-plan : goal.returns-clause-plan
returns-clause-plan c = (
  c.in_ok-choice.choice.pair.from,
  is_shift c.args.extents.now c.args.groups.now c.args.lost.now c.in_ok-choice.choice c.in_ok-extent.extent c.told-lost c.in_ok-choice.ensures.choice c.in_ok-choice.ensures.best (sym c.lowest_free.ensures ∙ c.in_ok-extent.was),
)

pub returns-clause-evens : goal.returns-clause-evens
returns-clause-evens c agree after move =
    let drives = c.in_ok-choice.ensures.choice.allowed.drives in
    evens c.args.extents.now after c.args.groups.now c.in_ok-choice.choice.pair.from c.in_ok-choice.choice.carrier.member c.in_ok-choice.choice.carrier.group
    (record { drive = c.in_ok-choice.choice.pair.to; extent = c.in_ok-extent.extent }) agree c.in_ok-choice.ensures.choice.member
    (sym c.lowest_free.ensures ∙ c.in_ok-extent.was) drives.taker.present.there.within drives.uneven move
