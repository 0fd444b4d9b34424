use Rattle.std.proofs.Common.{sym}
use Rattle.tiered_array.specs.Views.{TiersView}
use Rattle.tiered_array.proofs.Calm.{balances, still_needs}
use Rattle.std.proofs.Common.{Some}
use Rattle.flat_machine.specs.Cases.{IsAllocating}
use Rattle.flat_machine.specs.Steps as f
use Rattle.rebalancer.specs.declared.shift.Shift.{Shift}
use Rattle.tiered_array.specs.Regrouping.{IsBalanceOf}
use Rattle.tiered_array.proofs.tiers.Tiers.balance.Goals as goal

pub returns-clause-ok : goal.returns-clause-ok
returns-clause-ok g c =
    let a = c.args in
    let t : TiersView = record { world = c.self.inside.world; planner = c.self.inside.planner; hints = c.self.inside.hints; holes = c.self.inside.holes } in
    rw (sym c.self.view_is) (balances t c.balance.new.world c.balance.result c.balance.ensures.ok)

pub returns-clause-needs : goal.returns-clause-needs
returns-clause-needs g c =
    let t : TiersView = record { world = c.self.inside.world; planner = c.self.inside.planner; hints = c.self.inside.hints; holes = c.self.inside.holes } in
    rw (sym c.self.view_is) (still_needs t c.balance.result (λ F. (s : Shift) × IsBalanceOf F (Some s) × IsAllocating F (f.MoveExtent s.group s.member s.to)) c.balance.ensures.needs)
