use Rattle.std.proofs.Common.{Result, Ok, Err, OnErr, ◌<◌, subst, sym, rules}
use Rattle.slot_tables.specs.Views.{ArrayView}
use Rattle.flat_machine.specs.Steps as f
use Rattle.flat_machine.specs.Cases.{IsAllocating}
use Rattle.tiered_array.specs.Views.{TiersView}
use Rattle.tiered_array.proofs.Placings.{Commits}
use Rattle.tiered_array.proofs.Calm.{still_needs}
use Rattle.tiered_array.proofs.Standing.{Notes, commits, commits_none}
use Rattle.tiered_array.proofs.tiers.Tiers.commit.Goals as goal

pub returns-in_default-clause-ok : goal.returns-in_default-clause-ok
returns-in_default-clause-ok g c =
    let a = c.args in
    let t : TiersView = record { world = c.self.inside.world; planner = c.self.inside.planner; hints = c.self.inside.hints; holes = c.self.inside.holes } in
    rw (sym c.self.view_is) (commits_none t c.commit.new.self a.worker a.slot a.block c.in_ok-answer.answer (λ r is. search rules) c.in_ok-answer.ensures.ok)

pub returns-clause-ok : goal.returns-clause-ok
returns-clause-ok g c =
    let a = c.args in
    let r = c.in-Committed.record in
    let t : TiersView = record { world = c.self.inside.world; planner = c.self.inside.planner; hints = c.self.inside.hints; holes = c.self.inside.holes } in
    rw (sym c.self.view_is) (commits t c.commit.new.self c.note.new.self a.worker a.slot a.block r
    (subst (λ (u : TiersView). a.block < u.world.array.parts.groups.blocks) (sym c.self.view_is) c.requires)
    (subst (Commits t.world c.commit.new.self a.worker a.slot a.block) c.in-Committed.is c.in_ok-answer.ensures.ok)
    (subst (λ (x : ArrayView). Notes x.parts.groups t.planner c.note.new.self r) c.array.ensures c.note.ensures.noted) c.note.ensures.long c.note.ensures.end)

stopped : {A E : Type 0} (r : Result A E) (P : Type 0) → P → OnErr r P
stopped (Ok a) P p = tt
stopped (Err e) P p = p

pub returns-in_err-answer-clause-needs : goal.returns-in_err-answer-clause-needs
returns-in_err-answer-clause-needs g c =
    let t : TiersView = record { world = c.self.inside.world; planner = c.self.inside.planner; hints = c.self.inside.hints; holes = c.self.inside.holes } in
    rw (sym c.self.view_is) (still_needs t c.from_residual.result (λ F. IsAllocating F (f.Commit c.args.worker c.args.slot c.args.block)) (stopped c.from_residual.result _ c.in_err-answer.ensures.needs))
