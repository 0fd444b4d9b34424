use Rattle.std.proofs.Common.{refl, subst, sym, rules}
use Rattle.tiered_array.specs.Views.{TiersView}
use Rattle.tiered_array.specs.Placing.{Again}
use Rattle.tiered_array.specs.declared.outcome.Outcome.TheVariants.{Placed}
use Rattle.tiered_array.proofs.Standing.{PutsTo, appends, end_stays}
use Rattle.tiered_array.proofs.tiers.Tiers.append.Goals as goal

pub returns-in-Ok-Placed-clause-ok : goal.returns-in-Ok-Placed-clause-ok
returns-in-Ok-Placed-clause-ok g c w =
    let a = c.args in
    let m : TiersView = record { world = c.self.inside.world; planner = c.self.inside.planner; hints = c.self.inside.hints; holes = c.self.inside.holes } in
    appends a.self.now m c.appended.new.self w a.slot a.block (Placed c.in-Ok-Placed.record)
    (subst (λ (u : TiersView). PutsTo a.self.now u w a.slot a.block Again (Placed c.in-Ok-Placed.record)) (sym c.self.view_is)
    (subst (PutsTo a.self.now c.put.new.self w a.slot a.block Again) c.in-Ok-Placed.field-0-is (c.in-Ok-Placed.ensures.ok w)))
    c.appended.ensures.same c.appended.ensures.end

pub returns-in-Ok-clause-ok : goal.returns-in-Ok-clause-ok
returns-in-Ok-clause-ok g c w =
    let a = c.args in
    let m = c.put.new.self in
    appends a.self.now m m.planner w a.slot a.block c.in-Ok.other (c.in-Ok.ensures.ok w) refl (end_stays m.planner.end a.slot c.in-Ok.other (λ r is. search rules))
