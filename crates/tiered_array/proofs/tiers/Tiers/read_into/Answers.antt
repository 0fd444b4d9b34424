use Rattle.std.proofs.Common.{sym}
use Rattle.flat_machine.specs.Steps as f
use Rattle.tiered_array.specs.Views.{TiersView}
use Rattle.tiered_array.proofs.Calm.{steps_with}
use Rattle.tiered_array.proofs.tiers.Tiers.read_into.Goals as goal

pub returns-clause-flat : goal.returns-clause-flat
returns-clause-flat g c =
    let a = c.args in
    let t : TiersView = record { world = c.self.inside.world; planner = c.self.inside.planner; hints = c.self.inside.hints; holes = c.self.inside.holes } in
    rw (sym c.self.view_is) (steps_with t c.read_into.new.self (f.Read a.block) _ tt c.read_into.ensures.flat)
