use Rattle.std.proofs.Common.{sym}
use Rattle.tiered_array.specs.Views.{TiersView}
use Rattle.tiered_array.proofs.Standing.{plugs, plugs_nothing}
use Rattle.tiered_array.proofs.Stopping.{stops_plug}
use Rattle.tiered_array.proofs.tiers.Tiers.plug.Goals as goal

pub returns-in-Some-clause-ok : goal.returns-in-Some-clause-ok
returns-in-Some-clause-ok g c w =
    let t : TiersView = record { world = c.self.inside.world; planner = c.self.inside.planner; hints = c.self.inside.hints; holes = c.self.inside.holes } in
    rw (sym c.self.view_is) (plugs t c.copy_if_free.new.self c.array.result.now w c.in-Some.plan c.copy_if_free.result c.array.ensures c.in-Some.ensures.plan (rw (sym c.self.view_is) at (c.copy_if_free.ensures.ok w)))

pub returns-in-Some-clause-err : goal.returns-in-Some-clause-err
returns-in-Some-clause-err g c w =
    let t : TiersView = record { world = c.self.inside.world; planner = c.self.inside.planner; hints = c.self.inside.hints; holes = c.self.inside.holes } in
    rw (sym c.self.view_is) (stops_plug t c.copy_if_free.new.self c.array.result.now w c.in-Some.plan c.copy_if_free.result c.array.ensures c.in-Some.ensures.plan (rw (sym c.self.view_is) at (c.copy_if_free.ensures.err w)))

pub returns-in-None-clause-ok : goal.returns-in-None-clause-ok
returns-in-None-clause-ok g c w =
    let t : TiersView = record { world = c.self.inside.world; planner = c.self.inside.planner; hints = c.self.inside.hints; holes = c.self.inside.holes } in
    rw (sym c.self.view_is) (plugs_nothing t c.array.result.now w c.array.ensures c.in-None.ensures.plan)
