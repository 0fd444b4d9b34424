use Rattle.std.proofs.Common.{◌<◌, Bool, List, Option, Some, subst, arith, length, rules}
use Rattle.rebalancer.specs.declared.shift.Shift.{Shift}
use Rattle.rebalancer.specs.Rebuilding.{IsRebuild}
use Rattle.tiered_array.specs.Regrouping.{AreLostOf, IsRebuildOf}
use Rattle.tiered_array.proofs.Regrouping.{rebuild_of, all_rebuilt, all_expected}
use Rattle.tiered_array.proofs.regroup.rebuild.Goals as goal

pub returns-in-Some-clause-ok : goal.returns-in-Some-clause-ok
returns-in-Some-clause-ok g c =
    let v = c.args.world.now in
    let drive = c.args.drive in
    let plan = subst (λ (o : Option Shift). (lost : List Bool) × AreLostOf v.array.parts lost × IsRebuild v.array.parts.owners v.array.parts.groups lost drive o) c.in-Some.is c.plan_rebuild.ensures.plan in
    let below : drive < length v.array.parts.drives = search rules in
    all_rebuilt c.carry_out.result v c.carry_out.new.world drive c.in-Some.shift
    (λ F rep. let many = rep.array.tables.drives in omega arith)
    (λ F rep. rebuild_of v F c.plan_rebuild.ensures.whole rep plan.0 drive (Some c.in-Some.shift) plan.1 plan.2) c.carry_out.ensures.ok

pub returns-in-Some-clause-needs : goal.returns-in-Some-clause-needs
returns-in-Some-clause-needs g c =
    let v = c.args.world.now in
    let drive = c.args.drive in
    let plan = subst (λ (o : Option Shift). (lost : List Bool) × AreLostOf v.array.parts lost × IsRebuild v.array.parts.owners v.array.parts.groups lost drive o) c.in-Some.is c.plan_rebuild.ensures.plan in
    all_expected c.carry_out.result v c.in-Some.shift (λ F o. IsRebuildOf F drive o)
    (λ F rep. rebuild_of v F c.plan_rebuild.ensures.whole rep plan.0 drive (Some c.in-Some.shift) plan.1 plan.2) c.carry_out.ensures.needs
