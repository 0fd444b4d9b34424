use Rattle.std.proofs.Common.{sym}
use Rattle.flat_machine.specs.Steps as f
use Rattle.tiered_array.specs.Views.{TiersView}
use Rattle.tiered_array.proofs.Calm.{steps_if, still_needs}
use Rattle.flat_machine.specs.Cases.{IsAllocating}
use Rattle.tiered_array.proofs.tiers.Tiers.read_at.Goals as goal

pub returns-clause-ok : goal.returns-clause-ok
returns-clause-ok g c =
    let a = c.args in
    let t : TiersView = record { world = c.self.inside.world; planner = c.self.inside.planner; hints = c.self.inside.hints; holes = c.self.inside.holes } in
    rw (sym c.self.view_is) (steps_if t c.read_at.new.self (f.ReadAt a.asked) c.read_at.result tt c.read_at.ensures.ok)

pub returns-clause-needs : goal.returns-clause-needs
returns-clause-needs g c =
    let t : TiersView = record { world = c.self.inside.world; planner = c.self.inside.planner; hints = c.self.inside.hints; holes = c.self.inside.holes } in
    rw (sym c.self.view_is) (still_needs t c.read_at.result (λ F. IsAllocating F (f.ReadAt c.args.asked)) c.read_at.ensures.needs)
