use Rattle.std.proofs.Common.{sym, ◌∙◌}
use Rattle.std.proofs.lemmas.Bool.{false≢true}
use Rattle.nbd_wire.specs.Requests.{is_forced}
use Rattle.nbd_serve.specs.Stopping.{store_type}
use Rattle.nbd_serve.proofs.Stopping.{flush_leaves, flushed_if, forces_flush, forces_none, unflushed_leaves}
use Rattle.nbd_serve.proofs.store_calls.force.Goals as goal

pub returns-then-is_forced-clause-change : goal.returns-then-is_forced-clause-change
returns-then-is_forced-clause-change g c = λ F a is.
    let store = g.S.ByteStore in
    let type = store_type store.represents store.keys store.stays store.outlasts store.moment store.outlasts_since in
    let e = c.flush.ensures in
    let done = e.change F is.represented in (
      done.0,
      flushed_if type _ (λ both. both.0) a _ _ done.0
          (flush_leaves type c.flush.result F done.0 a _ _ is.shown (e.stays F is.represented) (e.keys F is.represented) (e.lasts F a is.represented is.shown)
          (e.flushed F a is.represented is.shown) done.1 done.2),
      forces_flush c.flush.result (is_forced c.args.request.now) F done.0 (sym c.is_forced.ensures ∙ c.if-is_forced.true) done.2,
    )

pub returns-else-is_forced-clause-change : goal.returns-else-is_forced-clause-change
returns-else-is_forced-clause-change g c = λ F a is.
    let store = g.S.ByteStore in
    let type = store_type store.represents store.keys store.stays store.outlasts store.moment store.outlasts_since in
    let not = sym c.is_forced.ensures ∙ c.if-is_forced.false in (
      F,
      unflushed_leaves type _ F a _ (λ both. false≢true (sym not ∙ both.1)) is,
      forces_none (is_forced c.args.request.now) F not,
    )
