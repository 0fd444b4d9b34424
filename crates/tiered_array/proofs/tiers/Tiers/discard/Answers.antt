use Rattle.std.proofs.Common.{sym}
use Rattle.flat_machine.specs.Steps as f
use Rattle.tiered_array.specs.Views.{TiersView}
use Rattle.tiered_array.proofs.Calm.{steps_with}
use Rattle.tiered_array.proofs.tiers.Tiers.discard.Goals as goal

pub returns-clause-flat : goal.returns-clause-flat
returns-clause-flat g c =
    let a = c.args in
    let t : TiersView = record { world = c.self.inside.world; planner = c.self.inside.planner; hints = c.self.inside.hints; holes = c.self.inside.holes } in
    rw (sym c.self.view_is) (steps_with t c.discard.new.self (f.Discard a.worker a.slot) _ tt c.discard.ensures.flat)
