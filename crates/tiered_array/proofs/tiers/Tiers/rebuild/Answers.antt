use Rattle.std.proofs.Common.{sym}
use Rattle.tiered_array.specs.Views.{TiersView}
use Rattle.tiered_array.proofs.Calm.{rebuilds, still_needs}
use Rattle.std.proofs.Common.{Some}
use Rattle.flat_machine.specs.Cases.{IsAllocating}
use Rattle.flat_machine.specs.Steps as f
use Rattle.rebalancer.specs.declared.shift.Shift.{Shift}
use Rattle.tiered_array.specs.Regrouping.{IsRebuildOf}
use Rattle.tiered_array.proofs.tiers.Tiers.rebuild.Goals as goal

pub returns-clause-ok : goal.returns-clause-ok
returns-clause-ok g c =
    let a = c.args in
    let t : TiersView = record { world = c.self.inside.world; planner = c.self.inside.planner; hints = c.self.inside.hints; holes = c.self.inside.holes } in
    rw (sym c.self.view_is) (rebuilds t c.rebuild.new.world a.drive c.rebuild.result c.rebuild.ensures.ok)

pub returns-clause-needs : goal.returns-clause-needs
returns-clause-needs g c =
    let t : TiersView = record { world = c.self.inside.world; planner = c.self.inside.planner; hints = c.self.inside.hints; holes = c.self.inside.holes } in
    rw (sym c.self.view_is) (still_needs t c.rebuild.result (λ F. (s : Shift) × IsRebuildOf F c.args.drive (Some s) × IsAllocating F (f.MoveExtent s.group s.member s.to)) c.rebuild.ensures.needs)
