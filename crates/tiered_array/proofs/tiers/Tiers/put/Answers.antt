use Rattle.std.proofs.Common.{◌<◌, Result, Ok, Err, OnErr, ap, subst, sym}
use Rattle.tiered_array.specs.Views.{TiersView}
use Rattle.slot_tables.specs.Views.{ArrayView}
use Rattle.tiered_array.specs.Placing.{put_of}
use Rattle.tiered_array.specs.declared.outcome.Outcome.TheVariants as outcome
use Rattle.tiered_array.proofs.Standing.{Notes, puts, puts_refused, puts_stop}
use Rattle.tiered_array.proofs.tiers.Tiers.put.Goals as goal

pub returns-in-Ok-clause-ok : goal.returns-in-Ok-clause-ok
returns-in-Ok-clause-ok g c w =
    let a = c.args in
    let noted = c.note.ensures in
    let t : TiersView = record { world = c.self.inside.world; planner = c.self.inside.planner; hints = c.self.inside.hints; holes = c.self.inside.holes } in
    rw (sym c.self.view_is) (puts t (record { world = c.place_free.new.self; planner = c.note.new.self; hints = c.hint_left.new.hints; holes = c.hint_left-in-Ok.new.hints }) w a.slot a.block (put_of a.given) c.in-Ok.placed
    (λ F rep. c.in-Ok.ensures.flat F w rep)
    (subst (λ (x : ArrayView). Notes x.parts.groups t.planner c.note.new.self c.in-Ok.placed.newest) c.array.ensures noted.noted) noted.long noted.end (subst (λ (u : TiersView). a.block < u.world.array.parts.groups.blocks) (sym c.self.view_is) c.requires.block)
    c.hint_left.ensures.left c.hint_left.ensures.others c.hint_left-in-Ok.ensures.left c.hint_left-in-Ok.ensures.others)

pub returns-in_ok-unless_memory-in-Err-clause-ok : goal.returns-in_ok-unless_memory-in-Err-clause-ok
returns-in_ok-unless_memory-in-Err-clause-ok g c w =
    let a = c.args in
    let answered = c.in_ok-unless_memory-in-Err in
    let t : TiersView = record { world = c.self.inside.world; planner = c.self.inside.planner; hints = c.self.inside.hints; holes = c.self.inside.holes } in
    rw (sym c.self.view_is) (puts_refused t c.place_free.new.self w a.slot a.block (put_of a.given) c.in-Err.refusal (outcome.Refused answered.field-0) (ap outcome.Refused answered.ensures.ok.0) answered.ensures.ok.1
    (λ F rep. c.in-Err.ensures.flat F w rep))

stopped : {A E : Type 0} (r : Result A E) (P : Type 0) → P → OnErr r P
stopped (Ok a) P p = tt
stopped (Err e) P p = p

pub returns-in_err-unless_memory-in-Err-clause-err : goal.returns-in_err-unless_memory-in-Err-clause-err
returns-in_err-unless_memory-in-Err-clause-err g c w =
    let a = c.args in
    let t : TiersView = record { world = c.self.inside.world; planner = c.self.inside.planner; hints = c.self.inside.hints; holes = c.self.inside.holes } in
    rw (sym c.self.view_is) (stopped c.from_residual.result _ (puts_stop t c.place_free.new.self w a.slot a.block (put_of a.given) c.in-Err.refusal c.in_err-unless_memory-in-Err.ensures.err
    (λ F rep. c.in-Err.ensures.flat F w rep)))
