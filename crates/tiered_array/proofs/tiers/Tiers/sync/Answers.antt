use Rattle.std.proofs.Common.{sym}
use Rattle.tiered_array.specs.Views.{TiersView}
use Rattle.tiered_array.proofs.Calm.{syncs}
use Rattle.tiered_array.proofs.tiers.Tiers.sync.Goals as goal

pub returns-clause-flat : goal.returns-clause-flat
returns-clause-flat g c =
    let t : TiersView = record { world = c.self.inside.world; planner = c.self.inside.planner; hints = c.self.inside.hints; holes = c.self.inside.holes } in
    rw (sym c.self.view_is) (syncs t c.sync.new.self c.sync.ensures.flat)
