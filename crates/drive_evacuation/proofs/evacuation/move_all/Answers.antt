use Rattle.std.proofs.Common.{◌∙◌, refl, subst}
use Rattle.std.proofs.lemmas.Result.{err_from_is_err_and}
use Rattle.drive_evacuation.proofs.Moving.{Rebuilds, all_moved, move_refused, no_move, one_move}
use Rattle.drive_evacuation.proofs.evacuation.move_all.Goals as goal

pub loop-init : goal.loop-init
loop-init g c = record { room = record { payload = refl; blocks = refl }; moved = λ T was. no_move c.args.tiers.now T c.args.drive was }

pub returns-in_err-rebuild-clause-err : goal.returns-in_err-rebuild-clause-err
returns-in_err-rebuild-clause-err g c =
    let p = err_from_is_err_and c.from_residual.result c.from_residual.ensures.1 in
    rw (p.1, p.2) (λ T was.
    let by = c.loop.invariant.moved T was in
    (by.flat, rw c.in_err-rebuild.ensures.err by.matches, by.spread))

pub returns-in-Refused-clause-err : goal.returns-in-Refused-clause-err
returns-in-Refused-clause-err g c T was =
    move_refused c.loop.tiers c.rebuild.new.self T c.args.drive c.loop.counter c.in-Refused.refusal
    (subst (Rebuilds c.loop.tiers c.rebuild.new.self c.args.drive) c.in-Refused.is c.in_ok-rebuild.ensures.ok) (c.loop.invariant.moved T was)

pub returns-in-Nothing-clause-ok : goal.returns-in-Nothing-clause-ok
returns-in-Nothing-clause-ok g c T was =
    all_moved c.loop.tiers c.rebuild.new.self T c.args.drive c.loop.counter
    (subst (Rebuilds c.loop.tiers c.rebuild.new.self c.args.drive) c.in-Nothing.is c.in_ok-rebuild.ensures.ok) (c.loop.invariant.moved T was)

pub loop-preserved : goal.loop-preserved
loop-preserved g c =
    let room = c.in_ok-rebuild.ensures.room in
    let before = c.loop.invariant.room in
    record {
      room = record { payload = room.payload ∙ before.payload; blocks = room.blocks ∙ before.blocks };
      moved = λ T was.
          one_move c.loop.tiers c.rebuild.new.self T c.args.drive c.loop.counter c.in-Moved.field-0
          (subst (Rebuilds c.loop.tiers c.rebuild.new.self c.args.drive) c.in-Moved.is c.in_ok-rebuild.ensures.ok) (c.loop.invariant.moved T was);
    }
