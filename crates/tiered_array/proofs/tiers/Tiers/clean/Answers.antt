use Rattle.std.specs.declared.alloc.AllocError.{AllocError}
use Rattle.std.proofs.Common.{Ok, refl, rules, sym}
use Rattle.tiered_array.specs.Placing.{Again}
use Rattle.tiered_array.specs.Views.{TiersView}
use Rattle.tiered_array.specs.declared.outcome.Outcome.TheVariants.{NoRoom}
use Rattle.tiered_array.proofs.Standing.{appends, cleans, cleans_nothing, puts_nowhere}
use Rattle.tiered_array.proofs.Stopping.{stops_clean}
use Rattle.tiered_array.proofs.tiers.Tiers.clean.Goals as goal

pub returns-else-not-is_free-clause-ok : goal.returns-else-not-is_free-clause-ok
returns-else-not-is_free-clause-ok g c w =
    let t : TiersView = record { world = c.self.inside.world; planner = c.self.inside.planner; hints = c.self.inside.hints; holes = c.self.inside.holes } in
    rw (sym c.self.view_is) (cleans t c.append.new.self c.array.result.now w c.in-Some.plan c.append.result c.array.ensures c.in-Some.ensures.plan (rw (sym c.self.view_is) at (c.append.ensures.ok w)))

pub returns-else-not-is_free-clause-err : goal.returns-else-not-is_free-clause-err
returns-else-not-is_free-clause-err g c w =
    let t : TiersView = record { world = c.self.inside.world; planner = c.self.inside.planner; hints = c.self.inside.hints; holes = c.self.inside.holes } in
    rw (sym c.self.view_is) (stops_clean t c.append.new.self c.array.result.now w c.in-Some.plan c.append.result c.array.ensures c.in-Some.ensures.plan (rw (sym c.self.view_is) at (c.append.ensures.err w)))

pub returns-then-not-is_free-clause-ok : goal.returns-then-not-is_free-clause-ok
returns-then-not-is_free-clause-ok g c w =
    let t : TiersView = record { world = c.self.inside.world; planner = c.self.inside.planner; hints = c.self.inside.hints; holes = c.self.inside.holes } in
    rw (sym c.self.view_is) (cleans {E = AllocError} t t c.array.result.now w c.in-Some.plan (Ok NoRoom) c.array.ensures c.in-Some.ensures.plan
    (appends t t t.planner w c.in-Some.plan.to c.in-Some.plan.block NoRoom (puts_nowhere t w c.in-Some.plan.to c.in-Some.plan.block Again (search rules)) refl refl))

pub returns-in-None-clause-ok : goal.returns-in-None-clause-ok
returns-in-None-clause-ok g c w =
    let t : TiersView = record { world = c.self.inside.world; planner = c.self.inside.planner; hints = c.self.inside.hints; holes = c.self.inside.holes } in
    rw (sym c.self.view_is) (cleans_nothing t c.array.result.now w c.array.ensures c.in-None.ensures.plan)
