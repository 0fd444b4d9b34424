use Rattle.std.proofs.Common.{Bool, List, Option, Some, subst}
use Rattle.rebalancer.specs.declared.shift.Shift.{Shift}
use Rattle.rebalancer.specs.Balancing.{IsBalance}
use Rattle.tiered_array.specs.Regrouping.{AreLostOf, IsBalanceOf}
use Rattle.tiered_array.proofs.Regrouping.{balance_of, all_balanced, all_expected}
use Rattle.tiered_array.proofs.regroup.balance.Goals as goal

pub returns-in-Some-clause-ok : goal.returns-in-Some-clause-ok
returns-in-Some-clause-ok g c =
    let v = c.args.world.now in
    let plan = subst (λ (o : Option Shift). (lost : List Bool) × AreLostOf v.array.parts lost × IsBalance v.array.parts.owners v.array.parts.groups lost o) c.in-Some.is c.plan_balance.ensures.plan in
    all_balanced c.carry_out.result v c.carry_out.new.world c.in-Some.shift
    (λ F rep. balance_of v F c.plan_balance.ensures.whole rep plan.0 (Some c.in-Some.shift) plan.1 plan.2) c.carry_out.ensures.ok

pub returns-in-Some-clause-needs : goal.returns-in-Some-clause-needs
returns-in-Some-clause-needs g c =
    let v = c.args.world.now in
    let plan = subst (λ (o : Option Shift). (lost : List Bool) × AreLostOf v.array.parts lost × IsBalance v.array.parts.owners v.array.parts.groups lost o) c.in-Some.is c.plan_balance.ensures.plan in
    all_expected c.carry_out.result v c.in-Some.shift IsBalanceOf
    (λ F rep. balance_of v F c.plan_balance.ensures.whole rep plan.0 (Some c.in-Some.shift) plan.1 plan.2) c.carry_out.ensures.needs
