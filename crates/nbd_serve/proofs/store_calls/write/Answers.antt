use Rattle.std.proofs.Common.{inl, Err}
use Rattle.std.proofs.lemmas.Bool.{false≢true}
use Rattle.nbd_wire.specs.Requests.{is_forced}
use Rattle.nbd_serve.specs.Stopping.{store_type}
use Rattle.nbd_serve.proofs.Stopping.{at_own, came_one, leaves_on, leaves_refused, stored_on}
use Rattle.nbd_serve.proofs.store_calls.write.Goals as goal

pub returns-in-Ok-clause-change : goal.returns-in-Ok-clause-change
returns-in-Ok-clause-change g c = λ F a is.
    let store = g.S.ByteStore in
    let type = store_type store.represents store.keys store.stays store.outlasts store.moment store.outlasts_since in
    let forced = is_forced c.args.request.now in
    let changed = c.in-Ok.ensures.change F is.represented in
    let now = at_own type c.write.new.self changed.0 changed.1 in
    let then = c.force.ensures.change changed.0 _ now in (
      then.0,
      leaves_on type _ _ a _ then.0 _ _ _ (came_one store.stays _ _ (c.in-Ok.ensures.stays F is.represented))
          (c.in-Ok.ensures.lasts F changed.0 a _ is.represented changed.1 is.shown now.shown)
          (λ _. c.in-Ok.ensures.acknowledged F changed.0 a _ is.represented changed.1 is.shown now.shown) then.1,
      stored_on c.force.result forced F changed.0 then.0 c.args.request.now.offset c.args.bytes.now changed.2 then.2,
    )

pub returns-in-Err-clause-change : goal.returns-in-Err-clause-change
returns-in-Err-clause-change g c = λ F a is.
    let store = g.S.ByteStore in
    let type = store_type store.represents store.keys store.stays store.outlasts store.moment store.outlasts_since in
    let e = c.in-Err.ensures in
    let changed = e.change F is.represented in
    let now = at_own type c.write.new.self changed.0 changed.1 in (
      changed.0,
      leaves_refused type (Err c.in-Err.fault) (λ ok. false≢true ok) _ a _ changed.0 _ _ (e.stays F is.represented) now (e.lasts F changed.0 a _ is.represented changed.1 is.shown now.shown),
      inl changed.2,
    )
