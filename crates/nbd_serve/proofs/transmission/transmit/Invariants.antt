use Rattle.std.proofs.Common.{◌≡◌, ◌≤◌, length}
use Rattle.byte_store.specs.Flat.{StoreState}
use Rattle.byte_store.specs.Lasting.{Shown}
use Rattle.nbd_serve.specs.Stopping.{IsStoreAt, store_type}
use Rattle.nbd_serve.proofs.Sessions.{IsAlong}
use Rattle.nbd_serve.proofs.transmission.transmit.Given as goal

-- `served` requests were answered, and the buffer has room for a reply's head
abbrev pub invariant-loop-served : goal.invariant-loop-served
invariant-loop-served g l =
    let remaining = g.R.Read.remaining in
    let contents = g.W.Write.contents in
    let store = g.S.ByteStore in
    let type = store_type store.represents store.keys store.stays store.outlasts store.moment store.outlasts_since in record {
      room : 16 ≤ length l.out.items;
      same : store.sizes l.store ≡ store.sizes l.fn.store;
      along : (F : StoreState) (a : Shown) → IsStoreAt type l.fn.store F a
          → IsAlong type store.may_refuse (store.sizes l.fn.store).bytes l.served F a l.fn.store l.store (remaining l.fn.reader) (remaining l.reader) (contents l.fn.writer) (contents l.writer);
    }
