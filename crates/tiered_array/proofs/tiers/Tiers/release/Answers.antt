use Rattle.std.proofs.Common.{sym}
use Rattle.tiered_array.specs.Views.{TiersView}
use Rattle.tiered_array.proofs.Standing.{releases}
use Rattle.tiered_array.proofs.tiers.Tiers.release.Goals as goal

pub returns-clause-flat : goal.returns-clause-flat
returns-clause-flat g c =
    let a = c.args in
    let t : TiersView = record { world = c.self.inside.world; planner = c.self.inside.planner; hints = c.self.inside.hints; holes = c.self.inside.holes } in
    rw (sym c.self.view_is) (releases t c.release-answer.new.self c.add.new.self c.add-2.new.self a.worker a.slot c.release-answer.result c.release-answer.ensures.flat c.add.ensures.here c.add.ensures.others
    c.add-2.ensures.here c.add-2.ensures.others)
