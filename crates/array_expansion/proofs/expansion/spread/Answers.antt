use Rattle.std.proofs.Common.{◌∙◌, refl, subst}
use Rattle.std.proofs.lemmas.Result.{err_from_is_err_and}
use Rattle.array_expansion.proofs.Falling.{Balances, all_moved, move_refused, no_move, one_move}
use Rattle.array_expansion.proofs.expansion.spread.Goals as goal

pub loop-init : goal.loop-init
loop-init g c = record { room = record { payload = refl; blocks = refl }; spread = λ T was. no_move c.args.tiers.now T was }

pub returns-in_err-balance-clause-err : goal.returns-in_err-balance-clause-err
returns-in_err-balance-clause-err g c =
    let p = err_from_is_err_and c.from_residual.result c.from_residual.ensures.1 in
    rw (p.1, p.2) (λ T was.
    let by = c.loop.invariant.spread T was in
    (by.flat, rw c.in_err-balance.ensures.err by.matches, by.spread))

pub returns-in-Refused-clause-err : goal.returns-in-Refused-clause-err
returns-in-Refused-clause-err g c T was =
    move_refused c.loop.tiers c.balance.new.self T c.loop.counter c.in-Refused.refusal
    (subst (Balances c.loop.tiers c.balance.new.self) c.in-Refused.is c.in_ok-balance.ensures.ok) (c.loop.invariant.spread T was)

pub returns-in-Nothing-clause-ok : goal.returns-in-Nothing-clause-ok
returns-in-Nothing-clause-ok g c T was =
    all_moved c.loop.tiers c.balance.new.self T c.loop.counter
    (subst (Balances c.loop.tiers c.balance.new.self) c.in-Nothing.is c.in_ok-balance.ensures.ok) (c.loop.invariant.spread T was)

pub loop-preserved : goal.loop-preserved
loop-preserved g c =
    let room = c.in_ok-balance.ensures.room in
    let before = c.loop.invariant.room in
    record {
      room = record { payload = room.payload ∙ before.payload; blocks = room.blocks ∙ before.blocks };
      spread = λ T was.
          one_move c.loop.tiers c.balance.new.self T c.loop.counter c.in-Moved.field-0
          (subst (Balances c.loop.tiers c.balance.new.self) c.in-Moved.is c.in_ok-balance.ensures.ok) (c.loop.invariant.spread T was);
    }
