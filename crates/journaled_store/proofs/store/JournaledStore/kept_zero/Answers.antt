use Rattle.std.proofs.Common.{replicate, Bool, ap, sym, subst, ◌∙◌}
use Rattle.std.proofs.lemmas.Result.{err_from_is_err_and}
use Rattle.byte_store.specs.Flat.{Sizes}
use Rattle.vault.proofs.Carried.{on_ok_of}
use Rattle.array_store.specs.Stores.{Follows, IsStoreOf, StoreView}
use Rattle.journaled_store.specs.Outlasting.{point}
use Rattle.journaled_store.specs.Left.{HasBoth}
use Rattle.journaled_store.proofs.Lasting.{array_acknowledges, array_lasts}
use Rattle.journaled_store.proofs.Storing.{noting, with_note, written_store}
use Rattle.journaled_store.proofs.store.JournaledStore.kept_zero.Goals as goal

pub returns-in_err-publish-clause-change : goal.returns-in_err-publish-clause-change
returns-in_err-publish-clause-change g c F is =
    let now = c.zero-zeroed.new.self in
    let same = c.publish.ensures.same in
    let made = written_store c.args.self.now.store now c.args.self.now.unsynced c.zero-zeroed.result F is c.args.offset (replicate c.args.count 0) (ap (λ (s : Sizes). s.bytes) c.zero-zeroed.ensures.sizes) c.zero-zeroed.ensures.change in
    let p = err_from_is_err_and c.from_residual.result c.from_residual.ensures.1 in
    rw p.1 (
      made.0,
      subst (λ (s : StoreView). IsStoreOf s.tiers s.size c.publish.new.self.unsynced made.0) (sym same.0) (subst (λ (b : Bool). IsStoreOf now.tiers now.size b made.0) (sym same.1) made.1),
      made.2,
    )

pub returns-in_err-publish-clause-sizes : goal.returns-in_err-publish-clause-sizes
returns-in_err-publish-clause-sizes g c = (
  ap (λ (s : StoreView). s.size) c.publish.ensures.same.0 ∙ ap (λ (s : Sizes). s.bytes) c.zero-zeroed.ensures.sizes,
  ap (λ (s : StoreView). s.tiers.world.array.parts.groups.payload) c.publish.ensures.same.0 ∙ ap (λ (s : Sizes). s.block) c.zero-zeroed.ensures.sizes,
)

pub returns-clause-change : goal.returns-clause-change
returns-clause-change g c F is =
    let now = c.zero-zeroed.new.self in
    let same = c.publish.ensures.same in
    let made = written_store c.args.self.now.store now c.args.self.now.unsynced c.zero-zeroed.result F is c.args.offset (replicate c.args.count 0) (ap (λ (s : Sizes). s.bytes) c.zero-zeroed.ensures.sizes) c.zero-zeroed.ensures.change in (
      made.0,
      subst (λ (s : StoreView). IsStoreOf s.tiers s.size c.publish.new.self.unsynced made.0) (sym same.0) (subst (λ (b : Bool). IsStoreOf now.tiers now.size b made.0) (sym same.1) made.1),
      made.3,
    )

pub returns-clause-sizes : goal.returns-clause-sizes
returns-clause-sizes g c = (
  ap (λ (s : StoreView). s.size) c.publish.ensures.same.0 ∙ ap (λ (s : Sizes). s.bytes) c.zero-zeroed.ensures.sizes,
  ap (λ (s : StoreView). s.tiers.world.array.parts.groups.payload) c.publish.ensures.same.0 ∙ ap (λ (s : Sizes). s.block) c.zero-zeroed.ensures.sizes,
)

pub returns-clause-kept : goal.returns-clause-kept
returns-clause-kept g c known lost live = on_ok_of _ c.zero-zeroed.result (c.in_ok-publish.ensures.kept known lost live)

pub returns-in_err-publish-clause-follows : goal.returns-in_err-publish-clause-follows
returns-in_err-publish-clause-follows g c F is =
    let was = c.args.self.now.store in
    subst (λ (s : StoreView). Follows was.tiers s.tiers) (sym c.publish.ensures.same.0) (c.zero-zeroed.ensures.stays (noting was.unsynced F) (with_note was c.args.self.now.unsynced F is))

pub returns-clause-follows : goal.returns-clause-follows
returns-clause-follows g c F is =
    let was = c.args.self.now.store in
    subst (λ (s : StoreView). Follows was.tiers s.tiers) (sym c.publish.ensures.same.0) (c.zero-zeroed.ensures.stays (noting was.unsynced F) (with_note was c.args.self.now.unsynced F is))

pub returns-in_err-publish-clause-lasts : goal.returns-in_err-publish-clause-lasts
returns-in_err-publish-clause-lasts g c F what is has =
    let v = g.V.Vault in
    let was = c.args.self.now.store in
    let now = c.zero-zeroed.new.self in
    let there : HasBoth now.tiers what = subst (λ (s : StoreView). HasBoth s.tiers what) c.publish.ensures.same.0 has in
    let follows = c.zero-zeroed.ensures.stays (noting was.unsynced F) (with_note was c.args.self.now.unsynced F is) in
    let p = err_from_is_err_and c.from_residual.result c.from_residual.ensures.1 in
    rw p.1 (array_lasts HasBoth v.known v.seen v.may_leave v.moment v.left_since g.met.V.Vault.counts_now g.met.V.Vault.only_now (point c.args.self.now) now.tiers (point c.publish.new.self) what what follows (c.publish.ensures.lasts what there).0, tt)

pub returns-clause-lasts : goal.returns-clause-lasts
returns-clause-lasts g c F what is has =
    let v = g.V.Vault in
    let was = c.args.self.now.store in
    let now = c.zero-zeroed.new.self in
    let there : HasBoth now.tiers what = subst (λ (s : StoreView). HasBoth s.tiers what) c.publish.ensures.same.0 has in
    let follows = c.zero-zeroed.ensures.stays (noting was.unsynced F) (with_note was c.args.self.now.unsynced F is) in (
      array_lasts HasBoth v.known v.seen v.may_leave v.moment v.left_since g.met.V.Vault.counts_now g.met.V.Vault.only_now (point c.args.self.now) now.tiers (point c.publish.new.self) what what follows (c.publish.ensures.lasts what there).0,
      on_ok_of _ c.zero-zeroed.result
          (array_acknowledges HasBoth v.known v.seen v.may_leave v.moment v.left_since g.met.V.Vault.counts_now g.met.V.Vault.only_now (point c.args.self.now) now.tiers (point c.publish.new.self) what what follows (c.in_ok-publish.ensures.lasts what there).1),
    )
