use Rattle.std.proofs.Common.{Result, Ok, Err, OnErr}
use Rattle.tiered_array.proofs.Regrouping.{shift_done, shift_needs, shift_refused}
use Rattle.tiered_array.proofs.regroup.carry_out.Goals as goal

pub returns-in-Ok-clause-ok : goal.returns-in-Ok-clause-ok
returns-in-Ok-clause-ok g c = (shift_done c.args.world.now c.move_extent.new.self c.args.shift c.in-Ok.ensures.flat).ok

pub returns-in_ok-unless_memory-in-Err-clause-ok : goal.returns-in_ok-unless_memory-in-Err-clause-ok
returns-in_ok-unless_memory-in-Err-clause-ok g c =
    let answered = c.in_ok-unless_memory-in-Err in
    (shift_refused c.args.world.now c.move_extent.new.self c.args.shift c.in-Err.refusal answered.field-0 answered.ensures.ok.0 answered.ensures.ok.1 c.in-Err.ensures.flat).ok

stopped : {A E : Type 0} (r : Result A E) (P : Type 0) → P → OnErr r P
stopped (Ok a) P p = tt
stopped (Err e) P p = p

pub returns-in_err-unless_memory-in-Err-clause-err : goal.returns-in_err-unless_memory-in-Err-clause-err
returns-in_err-unless_memory-in-Err-clause-err g c =
    stopped c.from_residual.result _ (c.in-Err.ensures.err c.in_err-unless_memory-in-Err.ensures.err)

pub returns-in_err-unless_memory-in-Err-clause-needs : goal.returns-in_err-unless_memory-in-Err-clause-needs
returns-in_err-unless_memory-in-Err-clause-needs g c =
    stopped c.from_residual.result _
    (shift_needs c.args.world.now c.move_extent.new.self c.args.shift c.in-Err.refusal c.in_err-unless_memory-in-Err.ensures.err c.in-Err.ensures.flat)
