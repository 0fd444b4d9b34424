use Rattle.std.proofs.Common.{◌≡◌, List, ℕ, length, drop, subst, ◌∙◌}
use Rattle.std.proofs.lemmas.List.{length-take-le, take_at}
use Rattle.nbd_wire.specs.Requests.{is_forced}
use Rattle.nbd_serve.specs.Answers.{Stores}
use Rattle.nbd_serve.proofs.Outcomes.{write_cause}
use Rattle.nbd_serve.proofs.answer.take_write.Goals as goal

pub returns-in-Ok-fill-clause-ok : goal.returns-in-Ok-fill-clause-ok
returns-in-Ok-fill-clause-ok g c = λ F a is.
    let r = c.args.request.now in
    let bytes = c.fill.new.buffer in
    let size : length bytes ≡ r.length = c.fill.auto.buffer ∙ length-take-le r.length c.args.data.now c.if-data-length.false in
    let written = c.write.ensures.change F a is in
    let P : List ℕ → Type 0 = λ xs. Stores c.write.result (is_forced r) F r.offset xs written.0 in record {
      carried = bytes;
      size = size;
      read = c.in-Ok-fill.ensures.whole;
      cause = write_cause g.S.ByteStore.may_refuse c.write.result c.write.ensures.cause;
      next = written.0;
      next_is = written.1;
      stores = subst P (take_at bytes (drop r.length c.args.data.now) r.length size) written.2;
    }
