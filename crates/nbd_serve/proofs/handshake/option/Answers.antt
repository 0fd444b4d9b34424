use Rattle.std.proofs.Common.{inr}
use Rattle.nbd_serve.proofs.Turns.{taking_stopped, turn_broken, turn_done}
use Rattle.nbd_serve.specs.declared.options.Next.TheVariants as next
use Rattle.nbd_serve.specs.Halts.{end_of}
use Rattle.nbd_serve.proofs.handshake.option.Goals as goal

pub returns-in-Err-take : goal.returns-in-Err-take
returns-in-Err-take g c =
    taking_stopped (end_of c.in-Err-take.halt) c.args.export.now c.args.no_zeroes c.fill.new.buffer c.in-Some.asked _ _ _ _ c.fill.auto.buffer
    c.in-Some.ensures.some c.in_default.ensures.whole c.in-Err-take.ensures.err

pub returns-in-Err-write_out : goal.returns-in-Err-write_out
returns-in-Err-write_out g c =
    turn_broken c.in-Ok.next c.args.export.now c.args.no_zeroes c.fill.new.buffer c.in-Some.asked _ _ _ _ _ _ _ _ c.fill.auto.buffer
    c.in-Some.ensures.some c.in_default.ensures.whole c.in-Ok.ensures.ok c.clear.ensures.items c.deref.ensures.value
    c.in-Err-write_out.ensures.part

pub returns-in-More : goal.returns-in-More
returns-in-More g c =
    turn_done next.More c.args.export.now c.args.no_zeroes c.fill.new.buffer c.in-Some.asked _ _ _ _ _ _ _ _ c.fill.auto.buffer
    c.in-Some.ensures.some c.in_default.ensures.whole (rw c.in-More.is at c.in-Ok.ensures.ok) c.clear.ensures.items c.deref.ensures.value
    c.in_default-write_out.ensures.whole

pub returns-in-Go : goal.returns-in-Go
returns-in-Go g c =
    turn_done next.Go c.args.export.now c.args.no_zeroes c.fill.new.buffer c.in-Some.asked _ _ _ _ _ _ _ _ c.fill.auto.buffer
    c.in-Some.ensures.some c.in_default.ensures.whole (rw c.in-Go.is at c.in-Ok.ensures.ok) c.clear.ensures.items c.deref.ensures.value
    c.in_default-write_out.ensures.whole

pub returns-in-Abort : goal.returns-in-Abort
returns-in-Abort g c =
    turn_done next.Abort c.args.export.now c.args.no_zeroes c.fill.new.buffer c.in-Some.asked _ _ _ _ _ _ _ _ c.fill.auto.buffer
    c.in-Some.ensures.some c.in_default.ensures.whole (rw c.in-Abort.is at c.in-Ok.ensures.ok) c.clear.ensures.items c.deref.ensures.value
    c.in_default-write_out.ensures.whole

pub returns-in-HangUp : goal.returns-in-HangUp
returns-in-HangUp g c =
    inr (turn_done next.HangUp c.args.export.now c.args.no_zeroes c.fill.new.buffer c.in-Some.asked _ _ _ _ _ _ _ _ c.fill.auto.buffer
    c.in-Some.ensures.some c.in_default.ensures.whole (rw c.in-HangUp.is at c.in-Ok.ensures.ok) c.clear.ensures.items c.deref.ensures.value
    c.in_default-write_out.ensures.whole)
