use Rattle.std.proofs.Common.{Result, Ok, Err, OnErr, sym}
use Rattle.flat_machine.specs.Steps as f
use Rattle.flat_machine.specs.Cases.{IsAllocating}
use Rattle.tiered_array.specs.Views.{TiersView}
use Rattle.tiered_array.proofs.Calm.{still_needs}
use Rattle.tiered_array.proofs.Standing.{makes}
use Rattle.tiered_array.proofs.tiers.Tiers.make.Goals as goal

pub returns-clause-ok : goal.returns-clause-ok
returns-clause-ok g c =
    let a = c.args in
    let t : TiersView = record { world = c.self.inside.world; planner = c.self.inside.planner; hints = c.self.inside.hints; holes = c.self.inside.holes } in
    rw (sym c.self.view_is) (makes t c.make.new.self c.hint_made.new.hints c.hint_made-2.new.hints a.class a.members.now c.in_ok-answer.answer c.in_ok-answer.ensures.ok c.hint_made.ensures.made c.hint_made.ensures.others
    c.hint_made-2.ensures.made c.hint_made-2.ensures.others)

stopped : {A E : Type 0} (r : Result A E) (P : Type 0) → P → OnErr r P
stopped (Ok a) P p = tt
stopped (Err e) P p = p

pub returns-in_err-answer-clause-needs : goal.returns-in_err-answer-clause-needs
returns-in_err-answer-clause-needs g c =
    let t : TiersView = record { world = c.self.inside.world; planner = c.self.inside.planner; hints = c.self.inside.hints; holes = c.self.inside.holes } in
    rw (sym c.self.view_is) (still_needs t c.from_residual.result (λ F. IsAllocating F (f.Make c.args.class c.args.members.now)) (stopped c.from_residual.result _ c.in_err-answer.ensures.needs))
