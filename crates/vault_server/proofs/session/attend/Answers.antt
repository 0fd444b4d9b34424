use Rattle.std.proofs.Common.{◌∙◌, IsOk, sym, ap, subst, refl}
use Rattle.byte_store.specs.Lasting.{Lasts, ShowsState}
use Rattle.array_store.specs.Stores.{Follows, IsStoreOf}
use Rattle.journaled_store.specs.Left.{HasBoth}
use Rattle.journaled_store.specs.Outlasting.{Outlasts, OutlastsSince, Point, point, sizes_of}
use Rattle.journaled_store.proofs.Batching.{when_ok}
use Rattle.journaled_store.proofs.Storing.{flushed_both}
use Rattle.vault_server.specs.Served.{HasBegun, IsOn, durable}
use Rattle.vault_server.proofs.Begun.{served_from}
use Rattle.vault_server.proofs.Stops.{served_from_store}
use Rattle.vault_server.proofs.session.attend.Goals as goal

pub returns-clause-served : goal.returns-clause-served
returns-clause-served g c = λ what size shows represents groups drives since on.
    let vault = g.V.Vault in
    let opened = c.new-watched.result in
    let closed = c.serve-end.new.store in
    let flushed = c.flush-flushed.new.self in
    let kept = c.into_parts-store.result.0 in
    let settled = c.settle.new.self in
    let made = sym c.new-watched.ensures in
    let parted = c.into_parts-store.ensures.0 in
    served_from _ _ _ _ _ _ _ _ what _ _ _ _ _
    (λ begun. subst (λ s. HasBegun vault.known vault.seen vault.may_leave vault.moment vault.left_since since what (point s)) made begun)
    (served_from_store _ vault.known vault.seen vault.may_leave vault.moment vault.left_since (λ v. g.met.V.Vault.only_now v) (λ w. point w.store)
    (λ s killed cut out. out) (λ s t killed cut out. out) (λ s killed cut out. out) (λ s t killed cut out. out) (λ s. refl) closed flushed (point settled) (IsOk c.flush-flushed.result)
    groups drives opened (λ a b follows. follows) (subst (λ s. IsOn groups drives s.store.tiers) made on)
    (λ G is. (c.flush-flushed.ensures.stays G is, subst (λ s. Follows s.store.tiers settled.store.tiers) parted (c.settle.ensures.follows (c.flush-flushed.ensures.change G is).0 (subst (λ s. IsStoreOf s.store.tiers s.store.size s.unsynced (c.flush-flushed.ensures.change G is).0) (sym parted) (c.flush-flushed.ensures.change G is).1))))
    (λ G x is. record {
      flushes = c.flush-flushed.ensures.lasts G x is.represented is.shown;
      secures = λ ok. when_ok c.flush-flushed.result ok (c.flush-flushed.ensures.flushed G x is.represented is.shown);
      settles =
          let after = c.flush-flushed.ensures.change G is.represented in
          let both = flushed_both closed.store.store flushed.store.store c.flush-flushed.result G x after (c.flush-flushed.ensures.keys G is.represented) is.shown in
          subst (λ s. Lasts (Outlasts HasBoth vault.known vault.seen vault.may_leave) (λ (p : Point g.row.V.Denot). vault.moment p.vault) (OutlastsSince HasBoth vault.left_since) x x (point s) (point settled)) parted
          (c.settle.ensures.lasts after.0 x (subst (λ s. IsStoreOf s.store.tiers s.store.size s.unsynced after.0) (sym parted) after.1) (subst (λ s. HasBoth s.store.tiers x) (sym parted) both));
    })
    _ (sizes_of opened.store) what (ap (λ s. s.store.size) (sym made) ∙ size)
    (record { represented = subst (λ s. IsStoreOf s.store.tiers s.store.size s.unsynced (durable what)) made represents; shown = subst (λ s. ShowsState s.store.tiers.world.array.keys (durable what) what) made shows })
    _ _ _ _ _ (c.serve-end.ensures (durable what) what) since)
