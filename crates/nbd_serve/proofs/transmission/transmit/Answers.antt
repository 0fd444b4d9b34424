use Rattle.std.proofs.Common.{refl, ap, ◌∙◌, arith}
use Rattle.byte_store.specs.Flat.{Sizes}
use Rattle.nbd_serve.specs.Stopping.{store_type}
use Rattle.nbd_serve.proofs.Sessions.{along_more, along_none, served, served_most, served_none}
use Rattle.nbd_serve.specs.Halts.{end_of}
use Rattle.nbd_serve.proofs.transmission.transmit.Goals as goal

pub returns-in-Some : goal.returns-in-Some
returns-in-Some g c = λ F a is.
    let store = g.S.ByteStore in
    let type = store_type store.represents store.keys store.stays store.outlasts store.moment store.outlasts_since in
    rw c.end.ensures (served type (end_of c.in-Some.halt) _ _ _ F a _ _ _ _ _ _ _ _ _
    (c.loop-served.invariant.along F a is)
    (λ G b now. (rw (ap (λ (s : Sizes). s.bytes) c.loop-served.invariant.same) at (c.in-Some.ensures.step G b now))))

pub loop-served-preserved : goal.loop-served-preserved
loop-served-preserved g c =
    let store = g.S.ByteStore in
    let type = store_type store.represents store.keys store.stays store.outlasts store.moment store.outlasts_since in record {
      room = c.exchange.ensures.room;
      same = c.rest.ensures.sizes ∙ c.exchange.ensures.sizes ∙ c.loop-served.invariant.same;
      along = λ F a is.
          along_more type _ _ _ F a _ _ _ _ _ _ _ _ _ _ (c.loop-served.invariant.along F a is)
          (λ G b now. (rw (ap (λ (s : Sizes). s.bytes) c.loop-served.invariant.same) at (c.in_default-exchange.ensures.step G b now)))
          c.rest.ensures.kept c.rest.ensures.stays c.rest.ensures.lasts;
    }

pub returns-in_default : goal.returns-in_default
returns-in_default g c = λ F a is.
    let store = g.S.ByteStore in
    let type = store_type store.represents store.keys store.stays store.outlasts store.moment store.outlasts_since in
    served_none type store.may_refuse (store.sizes c.args.store.now).bytes F a c.args.store.now _ _ is

pub loop-served-init : goal.loop-served-init
loop-served-init g c =
    let store = g.S.ByteStore in
    let type = store_type store.represents store.keys store.stays store.outlasts store.moment store.outlasts_since in record {
      room = c.in-Ok.ensures;
      same = refl;
      along = λ F a is. along_none type store.may_refuse (store.sizes c.args.store.now).bytes F a c.args.store.now _ _ is;
    }

pub returns : goal.returns
returns g c = λ F a is.
    let store = g.S.ByteStore in
    let type = store_type store.represents store.keys store.stays store.outlasts store.moment store.outlasts_since in
    let done = c.loop-served-test.false in
    let most = c.loop-served.auto.served-end in
    served_most type store.may_refuse (store.sizes c.args.store.now).bytes _ F a c.args.store.now c.loop-served.store _ _ _ _ (c.loop-served.invariant.along F a is) (omega (arith, done, most))
