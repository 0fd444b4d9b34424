use Rattle.std.proofs.Common.{sym}
use Rattle.tiered_array.specs.Views.{TiersView}
use Rattle.tiered_array.proofs.Scanned.{scans, faults}
use Rattle.tiered_array.proofs.tiers.Tiers.scan.Goals as goal

pub returns-clause-ok : goal.returns-clause-ok
returns-clause-ok g c =
    let t : TiersView = record { world = c.self.inside.world; planner = c.self.inside.planner; hints = c.self.inside.hints; holes = c.self.inside.holes } in
    rw (sym c.self.view_is) (scans t c.scan_world.new.world c.scan_world.result c.scan_world.ensures.ok)

pub returns-clause-fault : goal.returns-clause-fault
returns-clause-fault g c =
    let t : TiersView = record { world = c.self.inside.world; planner = c.self.inside.planner; hints = c.self.inside.hints; holes = c.self.inside.holes } in
    rw (sym c.self.view_is) (faults t c.scan_world.new.world c.scan_world.result c.scan_world.ensures.fault)
