use Rattle.std.proofs.Common.{Bool, false, refl, sym, subst, ap, ◌∙◌}
use Rattle.slot_tables.specs.Views.{key_at}
use Rattle.std.proofs.lemmas.Result.{err_from_is_err_and}
use Rattle.array_store.specs.Stores.{Follows, IsStoreOf, StoreView}
use Rattle.journaled_store.specs.Outlasting.{point}
use Rattle.journaled_store.specs.Left.{HasBoth}
use Rattle.journaled_store.proofs.Lasting.{array_flushes, array_lasts}
use Rattle.journaled_store.proofs.Storing.{flushed_store, noting, with_note}
use Rattle.journaled_store.proofs.store.JournaledStore.kept_flush.Goals as goal

pub returns-in_err-publish_durably-clause-change : goal.returns-in_err-publish_durably-clause-change
returns-in_err-publish_durably-clause-change g c F is =
    let now = c.flush-flushed.new.self in
    let same = c.publish_durably.ensures.same in
    let kept = flushed_store c.args.self.now.store now c.args.self.now.unsynced c.flush-flushed.result F is c.flush-flushed.ensures.change in
    let p = err_from_is_err_and c.from_residual.result c.from_residual.ensures.1 in
    rw p.1 (
      F,
      subst (λ (s : StoreView). IsStoreOf s.tiers s.size c.publish_durably.new.self.unsynced F) (sym same.0) (subst (λ (b : Bool). IsStoreOf now.tiers now.size b F) (sym same.1) kept),
      refl,
    )

pub returns-in_err-flushed-clause-change : goal.returns-in_err-flushed-clause-change
returns-in_err-flushed-clause-change g c F is =
    let now = c.flush-flushed.new.self in
    let same = c.publish_durably.ensures.same in
    let kept = flushed_store c.args.self.now.store now c.args.self.now.unsynced c.flush-flushed.result F is c.flush-flushed.ensures.change in
    let p = err_from_is_err_and c.from_residual-in_err-flushed.result c.from_residual-in_err-flushed.ensures.1 in
    rw p.1 (
      F,
      subst (λ (s : StoreView). IsStoreOf s.tiers s.size c.publish_durably.new.self.unsynced F) (sym same.0) (subst (λ (b : Bool). IsStoreOf now.tiers now.size b F) (sym same.1) kept),
      refl,
    )

pub returns-clause-change : goal.returns-clause-change
returns-clause-change g c F is =
    let now = c.flush-flushed.new.self in
    let same = c.publish_durably.ensures.same in
    let kept = flushed_store c.args.self.now.store now c.args.self.now.unsynced c.flush-flushed.result F is c.flush-flushed.ensures.change in (
      noting false F,
      subst (λ (s : StoreView). IsStoreOf s.tiers s.size false (noting false F)) (sym same.0) (record { holds = kept.holds; long = kept.long; noted = refl }),
      (refl, refl),
    )

pub returns-in_err-publish_durably-clause-follows : goal.returns-in_err-publish_durably-clause-follows
returns-in_err-publish_durably-clause-follows g c F is =
    let was = c.args.self.now.store in
    subst (λ (s : StoreView). Follows was.tiers s.tiers) (sym c.publish_durably.ensures.same.0) (c.flush-flushed.ensures.stays (noting was.unsynced F) (with_note was c.args.self.now.unsynced F is))

pub returns-in_err-flushed-clause-follows : goal.returns-in_err-flushed-clause-follows
returns-in_err-flushed-clause-follows g c F is =
    let was = c.args.self.now.store in
    subst (λ (s : StoreView). Follows was.tiers s.tiers) (sym c.publish_durably.ensures.same.0) (c.flush-flushed.ensures.stays (noting was.unsynced F) (with_note was c.args.self.now.unsynced F is))

pub returns-clause-follows : goal.returns-clause-follows
returns-clause-follows g c F is =
    let was = c.args.self.now.store in
    subst (λ (s : StoreView). Follows was.tiers s.tiers) (sym c.publish_durably.ensures.same.0) (c.flush-flushed.ensures.stays (noting was.unsynced F) (with_note was c.args.self.now.unsynced F is))

pub returns-in_err-publish_durably-clause-lasts : goal.returns-in_err-publish_durably-clause-lasts
returns-in_err-publish_durably-clause-lasts g c F what is has =
    let v = g.V.Vault in
    let was = c.args.self.now.store in
    let now = c.flush-flushed.new.self in
    let there : HasBoth now.tiers what = subst (λ (s : StoreView). HasBoth s.tiers what) c.publish_durably.ensures.same.0 has in
    let follows = c.flush-flushed.ensures.stays (noting was.unsynced F) (with_note was c.args.self.now.unsynced F is) in
    let p = err_from_is_err_and c.from_residual.result c.from_residual.ensures.1 in
    rw p.1 (array_lasts HasBoth v.known v.seen v.may_leave v.moment v.left_since g.met.V.Vault.counts_now g.met.V.Vault.only_now (point c.args.self.now) now.tiers (point c.publish_durably.new.self) what what follows (c.publish_durably.ensures.lasts what there).0, tt)

pub returns-in_err-flushed-clause-lasts : goal.returns-in_err-flushed-clause-lasts
returns-in_err-flushed-clause-lasts g c F what is has =
    let v = g.V.Vault in
    let was = c.args.self.now.store in
    let now = c.flush-flushed.new.self in
    let there : HasBoth now.tiers what = subst (λ (s : StoreView). HasBoth s.tiers what) c.publish_durably.ensures.same.0 has in
    let follows = c.flush-flushed.ensures.stays (noting was.unsynced F) (with_note was c.args.self.now.unsynced F is) in
    let p = err_from_is_err_and c.from_residual-in_err-flushed.result c.from_residual-in_err-flushed.ensures.1 in
    rw p.1 (array_lasts HasBoth v.known v.seen v.may_leave v.moment v.left_since g.met.V.Vault.counts_now g.met.V.Vault.only_now (point c.args.self.now) now.tiers (point c.publish_durably.new.self) what what follows (c.publish_durably.ensures.lasts what there).0, tt)

pub returns-clause-lasts : goal.returns-clause-lasts
returns-clause-lasts g c F what is has =
    let v = g.V.Vault in
    let was = c.args.self.now.store in
    let now = c.flush-flushed.new.self in
    let there : HasBoth now.tiers what = subst (λ (s : StoreView). HasBoth s.tiers what) c.publish_durably.ensures.same.0 has in
    let follows = c.flush-flushed.ensures.stays (noting was.unsynced F) (with_note was c.args.self.now.unsynced F is) in (
      array_lasts HasBoth v.known v.seen v.may_leave v.moment v.left_since g.met.V.Vault.counts_now g.met.V.Vault.only_now (point c.args.self.now) now.tiers (point c.publish_durably.new.self) what what follows (c.publish_durably.ensures.lasts what there).0,
      array_flushes HasBoth v.known v.seen v.may_leave v.moment v.left_since g.met.V.Vault.counts_now g.met.V.Vault.only_now (point c.args.self.now) now.tiers (point c.publish_durably.new.self) what follows (c.in_ok-publish_durably.ensures.lasts what there).1,
    )

pub returns-in_err-publish_durably-clause-keys : goal.returns-in_err-publish_durably-clause-keys
returns-in_err-publish_durably-clause-keys g c F is block =
    let was = c.args.self.now.store in
    ap (λ (s : StoreView). key_at s.tiers.world.array block) c.publish_durably.ensures.same.0
    ∙ c.flush-flushed.ensures.keys (noting was.unsynced F) (with_note was c.args.self.now.unsynced F is) block

pub returns-in_err-flushed-clause-keys : goal.returns-in_err-flushed-clause-keys
returns-in_err-flushed-clause-keys g c F is block =
    let was = c.args.self.now.store in
    ap (λ (s : StoreView). key_at s.tiers.world.array block) c.publish_durably.ensures.same.0
    ∙ c.flush-flushed.ensures.keys (noting was.unsynced F) (with_note was c.args.self.now.unsynced F is) block

pub returns-clause-keys : goal.returns-clause-keys
returns-clause-keys g c F is block =
    let was = c.args.self.now.store in
    ap (λ (s : StoreView). key_at s.tiers.world.array block) c.publish_durably.ensures.same.0
    ∙ c.flush-flushed.ensures.keys (noting was.unsynced F) (with_note was c.args.self.now.unsynced F is) block
