use Rattle.std.proofs.Common.{length, take, ap, ◌∙◌, arith}
use Rattle.nbd_serve.proofs.Streaming.{kept_room, written_back}
use Rattle.nbd_serve.proofs.Sessions.{exchange_broken, exchange_cut, exchange_done}
use Rattle.nbd_serve.specs.Stopping.{store_type}
use Rattle.nbd_serve.proofs.Stopping.{unsaid, untouched}
use Rattle.nbd_serve.specs.Halts.{end_of}
use Rattle.nbd_serve.proofs.transmission.exchange.Goals as goal

pub returns-in-Ok-write_out : goal.returns-in-Ok-write_out
returns-in-Ok-write_out g c =
    let remaining = g.R.Read.remaining in
    let kept = c.answer.auto.out ∙ ap length c.deref_mut.ensures.value in
    let back = written_back c.make_room.new.out.len c.make_room.new.out.items c.answer.new.out c.make_room.new.out.ok.0 kept in record {
      room = kept_room c.make_room.new.out.len c.make_room.new.out.items c.answer.new.out c.make_room.new.out.ok.0 kept (omega (arith, c.requires.room, c.make_room.ensures));
      step = λ F a is.
          exchange_done _ _ _ F c.fill.new.buffer c.in-Some.request (remaining c.args.reader.now) _ _ _ _ (take c.in-Ok.count c.answer.new.out) _
          c.fill.auto.buffer c.in-Some.ensures.some c.in_default-command.not-Disconnect c.in_default.ensures.whole (c.in-Ok.ensures.ok F a is)
          (ap (take c.in-Ok.count) (c.deref.ensures.value ∙ back)) c.in-Ok-write_out.ensures.whole;
      sizes = c.answer.ensures.sizes;
    }

pub returns-in-Err-write_out : goal.returns-in-Err-write_out
returns-in-Err-write_out g c =
    let remaining = g.R.Read.remaining in
    let store = g.S.ByteStore in
    let type = store_type store.represents store.keys store.stays store.outlasts store.moment store.outlasts_since in
    let kept = c.answer.auto.out ∙ ap length c.deref_mut.ensures.value in
    let back = written_back c.make_room.new.out.len c.make_room.new.out.items c.answer.new.out c.make_room.new.out.ok.0 kept in record {
      room = kept_room c.make_room.new.out.len c.make_room.new.out.items c.answer.new.out c.make_room.new.out.ok.0 kept (omega (arith, c.requires.room, c.make_room.ensures));
      step = λ F a is.
          exchange_broken _ _ _ _ F c.fill.new.buffer c.in-Some.request (remaining c.args.reader.now) _ _ _ _ (take c.in-Ok.count c.answer.new.out) _
          c.fill.auto.buffer c.in-Some.ensures.some c.in_default-command.not-Disconnect c.in_default.ensures.whole (c.in-Ok.ensures.ok F a is)
          (ap (take c.in-Ok.count) (c.deref.ensures.value ∙ back)) c.in-Err-write_out.ensures.part
          (λ G left. unsaid type _ _ a _ _ G left);
      sizes = c.answer.ensures.sizes;
    }

pub returns-in-Err-answer : goal.returns-in-Err-answer
returns-in-Err-answer g c =
    let remaining = g.R.Read.remaining in
    let store = g.S.ByteStore in
    let type = store_type store.represents store.keys store.stays store.outlasts store.moment store.outlasts_since in
    let kept = c.answer.auto.out ∙ ap length c.deref_mut.ensures.value in
    record {
      room = kept_room c.make_room.new.out.len c.make_room.new.out.items c.answer.new.out c.make_room.new.out.ok.0 kept (omega (arith, c.requires.room, c.make_room.ensures));
      step = λ F a is.
          exchange_cut _ c.in-Err-answer.short (end_of c.halt-in-Err-answer.result) _ _ F c.fill.new.buffer c.in-Some.request (remaining c.args.reader.now) _ _ _
          c.fill.auto.buffer c.in-Some.ensures.some c.in_default.ensures.whole c.in-Err-answer.ensures.err.1 c.halt-in-Err-answer.ensures
          (untouched type F a _ _ c.in-Err-answer.ensures.err.0 is);
      sizes = c.answer.ensures.sizes;
    }
