use Rattle.std.proofs.Common.{◌≡◌, ◌+◌, ◌≤◌, ◌++◌, length, slice_range, Ok, Err, None, inr, refl, ap, ◌∙◌, arith}
use Rattle.nbd_wire.specs.Replies.{reply_bytes}
use Rattle.byte_store.specs.declared.fault.StoreFault.TheVariants as fault
use Rattle.nbd_serve.proofs.Replying.{bytes_written, no_bytes_written}
use Rattle.byte_store.proofs.Lasts.{lasts_as_before}
use Rattle.nbd_serve.specs.Stopping.{store_type}
use Rattle.nbd_serve.proofs.Stopping.{at_own, leaves_one}
use Rattle.nbd_serve.proofs.answer.answer_read.Goals as goal

pub returns-then-out-end-clause-written : goal.returns-then-out-end-clause-written
returns-then-out-end-clause-written g c = λ F represented. record {
  outcome = Err fault.Memory;
  cause = inr refl;
  reply_is = no_bytes_written _ c.args.request.now.cookie (Err fault.Memory) _ refl c.put_head.ensures.written;
}

pub returns-in-Ok-clause-written : goal.returns-in-Ok-clause-written
returns-in-Ok-clause-written g c = λ F represented.
    let r = c.args.request.now in
    let size : length c.read.new.out ≡ r.length = grind arith in
    record {
      outcome = Ok tt;
      cause = tt;
      reply_is =
          bytes_written None r.cookie _ r.length c.args.out.now c.read.new.out c.put_reply.new.out c.requires.room size c.put_reply.ensures
          ∙ ap (λ xs. reply_bytes None r.cookie ++ xs) (c.in-Ok.ensures.value F represented ∙ ap (λ n. slice_range F.bytes r.offset (r.offset + n)) (let size : 16 + c.args.request.now.length ≤ length c.args.out.now = c.if-out-end.false in grind (arith, size)));
    }

pub returns-in-Ok-clause-leaves : goal.returns-in-Ok-clause-leaves
returns-in-Ok-clause-leaves g c = λ F a is.
    let store = g.S.ByteStore in
    let type = store_type store.represents store.keys store.stays store.outlasts store.moment store.outlasts_since in
    let e = c.in-Ok.ensures in
    let now = at_own type c.read.new.self F (e.kept F is.represented) in
    leaves_one type a _ F _ _ (e.stays F is.represented) now (lasts_as_before store.outlasts store.moment store.outlasts_since a _ _ _ (e.lasts F a is.represented is.shown))

pub returns-in-Err-clause-leaves : goal.returns-in-Err-clause-leaves
returns-in-Err-clause-leaves g c = λ F a is.
    let store = g.S.ByteStore in
    let type = store_type store.represents store.keys store.stays store.outlasts store.moment store.outlasts_since in
    let e = c.in-Err.ensures in
    let now = at_own type c.read.new.self F (e.kept F is.represented) in
    leaves_one type a _ F _ _ (e.stays F is.represented) now (lasts_as_before store.outlasts store.moment store.outlasts_since a _ _ _ (e.lasts F a is.represented is.shown))
