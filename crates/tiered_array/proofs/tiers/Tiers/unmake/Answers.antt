use Rattle.std.proofs.Common.{sym}
use Rattle.flat_machine.specs.Steps as f
use Rattle.flat_machine.specs.Cases.{IsAllocating}
use Rattle.tiered_array.specs.Views.{TiersView}
use Rattle.tiered_array.proofs.Calm.{still_needs}
use Rattle.tiered_array.proofs.Standing.{unmade_if}
use Rattle.tiered_array.proofs.tiers.Tiers.unmake.Goals as goal

pub returns-clause-ok : goal.returns-clause-ok
returns-clause-ok g c =
    let t : TiersView = record { world = c.self.inside.world; planner = c.self.inside.planner; hints = c.self.inside.hints; holes = c.self.inside.holes } in
    rw (sym c.self.view_is) (unmade_if t c.unmake.new.self c.args.worker c.args.group c.unmake.result c.unmake.ensures.ok)

pub returns-clause-needs : goal.returns-clause-needs
returns-clause-needs g c =
    let t : TiersView = record { world = c.self.inside.world; planner = c.self.inside.planner; hints = c.self.inside.hints; holes = c.self.inside.holes } in
    rw (sym c.self.view_is) (still_needs t c.unmake.result (λ F. IsAllocating F (f.Unmake c.args.worker c.args.group)) c.unmake.ensures.needs)
