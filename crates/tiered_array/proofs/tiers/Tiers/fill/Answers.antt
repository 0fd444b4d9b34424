use Rattle.std.proofs.Common.{sym}
use Rattle.flat_machine.specs.Flat.{Payload}
use Rattle.flat_machine.specs.Steps as f
use Rattle.tiered_array.specs.Views.{TiersView}
use Rattle.tiered_array.proofs.Calm.{steps_if}
use Rattle.tiered_array.proofs.tiers.Tiers.fill.Goals as goal

pub returns-clause-ok : goal.returns-clause-ok
returns-clause-ok g c =
    let a = c.args in
    let t : TiersView = record { world = c.self.inside.world; planner = c.self.inside.planner; hints = c.self.inside.hints; holes = c.self.inside.holes } in
    rw (sym c.self.view_is) (steps_if t c.fill.new.self (f.Fill a.worker a.slot (Payload a.payload.now)) c.fill.result tt c.fill.ensures.ok)
