use Rattle.std.proofs.Common.{sym}
use Rattle.tiered_array.specs.Views.{TiersView}
use Rattle.tiered_array.proofs.Calm.{shortens}
use Rattle.tiered_array.proofs.tiers.Tiers.shorten_log.Goals as goal

pub returns-clause-flat : goal.returns-clause-flat
returns-clause-flat g c =
    let t : TiersView = record { world = c.self.inside.world; planner = c.self.inside.planner; hints = c.self.inside.hints; holes = c.self.inside.holes } in
    rw (sym c.self.view_is) (shortens t c.shorten_log.new.self c.shorten_log.result c.shorten_log.ensures.flat c.shorten_log.ensures.rest)
