use Rattle.std.proofs.Common.{refl}
use Rattle.std.proofs.lemmas.Bool.{false≢true}
use Rattle.rebalancer.proofs.Pairs.{best_without, best_following, best_instead}
use Rattle.rebalancer.proofs.balance.better.Goals as goal
use Rattle.rebalancer.proofs.balance.better.Goals.{then-not-may_give-via-then-not-may_give, then-not-may_give-via-else-not-may_give+then-not-beats}

pub returns-then-not-may_give-clause-best : goal.returns-then-not-may_give-clause-best
returns-then-not-may_give-clause-best c =
    elim c.then-not-may_give.branch [
      | then-not-may_give-via-then-not-may_give w ↦
          best_without c.args.extents.now c.args.groups.now c.args.lost.now c.args.pair.from c.args.pair.to c.args.best c.requires.to (λ h allowed. false≢true (w.if-not-may_give.ensures.1 allowed.drives))
      | then-not-may_give-via-else-not-may_give+then-not-beats w ↦
          best_following c.args.extents.now c.args.groups.now c.args.lost.now c.args.pair c.args.best c.requires.to (λ so. false≢true (w.if-not-beats.ensures.1 so))
    ]

pub returns-in-Some-clause-best : goal.returns-in-Some-clause-best
returns-in-Some-clause-best c =
    best_instead c.args.extents.now c.args.groups.now c.args.lost.now c.args.pair c.in-Some.carrier c.args.best c.requires.to (c.if-not-beats.ensures.0 refl)

pub returns-in-None-clause-best : goal.returns-in-None-clause-best
returns-in-None-clause-best c =
    best_without c.args.extents.now c.args.groups.now c.args.lost.now c.args.pair.from c.args.pair.to c.args.best c.requires.to (λ h allowed. c.in-None.ensures.none h allowed.group)
