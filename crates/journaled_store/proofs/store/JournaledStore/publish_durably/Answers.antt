use Rattle.std.proofs.Common.{[], ◌∷◌, ◌++◌, length, refl, suc, arith, ap, sym, subst, ◌∙◌}
use Rattle.std.proofs.lemmas.Result.{err_from_is_err_and}
use Rattle.byte_store.proofs.Lasts.{covering, lasts_after}
use Rattle.vault.specs.Images.{Image, recovered}
use Rattle.vault.specs.Moments.{RepresentsSome}
use Rattle.vault.specs.declared.store.Stop.TheVariants.{Killed}
use Rattle.vault.proofs.Runs.{both_runs}
use Rattle.array_store.specs.Stores.{StoreView}
use Rattle.journaled_store.specs.Steps.{IsBeforeOrNow, IsUpToDate}
use Rattle.journaled_store.specs.Outlasting.{Outlasts, OutlastsSince, Point, point}
use Rattle.journaled_store.specs.Left.{HasBoth}
use Rattle.journaled_store.proofs.Lasting.{ok_not_err, on_ok_by, published_lasts, synced, synced_outlasts}
use Rattle.journaled_store.proofs.Storing.{unless_err}
use Rattle.journaled_store.proofs.store.JournaledStore.publish_durably.Goals as goal

pub returns-in_err-publish-clause-logged : goal.returns-in_err-publish-clause-logged
returns-in_err-publish-clause-logged g c known lost stop low is works = (low, omega arith, c.publish.ensures.added known lost stop low is works)

pub returns-clause-step : goal.returns-clause-step
returns-clause-step g c known lost live works =
    let changes = c.publish.new.self.changes in
    subst (λ (i : Image). IsUpToDate lost changes.keeper changes.noted changes.batch (recovered i)) (sym (c.sync-synced.ensures.seen (c.publish.ensures.stays known)))
    (c.publish.ensures.step known lost live c.in_ok-publish.ensures.works.0)

pub returns-clause-rest : goal.returns-clause-rest
returns-clause-rest g c known lost live works at =
    ap (λ (i : Image). recovered i 16 (suc at)) (c.sync-synced.ensures.seen (c.publish.ensures.stays known)) ∙ c.publish.ensures.rest known lost live c.in_ok-publish.ensures.works.0 at

pub returns-clause-flushed : goal.returns-clause-flushed
returns-clause-flushed g c known lost stop low is =
    c.sync-synced.ensures.flushed (c.publish.ensures.stays known) lost stop low (c.publish.ensures.added known lost stop low is c.in_ok-publish.ensures.works.0)

pub returns-clause-logged : goal.returns-clause-logged
returns-clause-logged g c known lost stop low is works =
    let v = g.V.Vault in
    let now = c.publish.ensures.stays known in
    let logged = c.publish.ensures.added known lost stop low is c.in_ok-publish.ensures.works.0 in
    let most = logged.flushed in
    let all = unless_err c.sync-synced.result (sym c.is_err-self.ensures.value ∙ works) (c.sync-synced.ensures.flushed now lost stop low logged) in (
      length (Image.journal (v.seen c.sync-synced.new.vault)),
      omega (arith, most, ap (λ (i : Image). length i.journal) (c.sync-synced.ensures.seen now)),
      all,
    )

pub returns-clause-any_moment : goal.returns-clause-any_moment
returns-clause-any_moment g c known lost live stop low is =
    let v = g.V.Vault in
    let old = c.args.self.now.vault in
    let mid = c.publish.new.self.vault in
    let base = v.seen old in
    let drives = c.publish.new.self.store.tiers.world.array.parts.drives in
    let logged = c.publish.ensures.added known lost stop low (λ was. is) c.in_ok-publish.ensures.works.0 in
    both_runs v.moment v.left_since stop old mid c.sync-synced.new.vault
    (IsBeforeOrNow lost base low drives) (RepresentsSome lost (Image.cells (v.seen mid)) low (Image.journal (v.seen mid))) (IsBeforeOrNow lost base low drives)
    (c.publish.ensures.any_moment known lost live stop low is)
    (c.sync-synced.ensures.any_moment (c.publish.ensures.stays known) lost stop low logged)
    (λ i now. now)
    (λ i some. subst (λ (s : StoreView). IsBeforeOrNow lost base low s.tiers.world.array.parts.drives i) (sym c.publish.ensures.same.0)
    (c.publish.ensures.batches known lost live c.in_ok-publish.ensures.works.0 low i some))

pub returns-clause-killed : goal.returns-clause-killed
returns-clause-killed g c known lost logged works =
    let v = g.V.Vault in
    unless_err c.sync-synced.result (sym c.is_err-self.ensures.value ∙ works) (c.sync-synced.ensures.flushed (c.publish.ensures.stays known) lost Killed
    (length (Image.journal (v.seen c.publish.new.self.vault))) (c.publish.ensures.killed known lost logged c.in_ok-publish.ensures.works.0))

pub returns-in_err-publish-clause-lasts : goal.returns-in_err-publish-clause-lasts
returns-in_err-publish-clause-lasts g c what has =
    let p = err_from_is_err_and c.from_residual.result c.from_residual.ensures.1 in
    rw p.1 ((c.publish.ensures.lasts what has).0, tt)

pub returns-clause-lasts : goal.returns-clause-lasts
returns-clause-lasts g c what has =
    let v = g.V.Vault in
    let m = point c.publish.new.self in
    let e = c.sync-synced.ensures in
    let q : Point _ = record { keeper = m.keeper; noted = m.noted; batch = m.batch; failed = c.is_err-self.result; tiers = m.tiers; vault = c.sync-synced.new.vault } in
    let there : HasBoth m.tiers what = subst (λ (s : StoreView). HasBoth s.tiers what) (sym c.publish.ensures.same.0) has in (
      lasts_after (Outlasts HasBoth v.known v.seen v.may_leave) (λ r. v.moment r.vault) (OutlastsSince HasBoth v.left_since) what what (point c.args.self.now) m q (c.publish.ensures.lasts what has).0
          (published_lasts HasBoth v.known v.seen v.may_leave v.moment v.left_since g.met.V.Vault.counts_now g.met.V.Vault.only_now m q what there c.in_ok-publish.ensures.works.1
          (synced HasBoth v.known v.seen v.may_leave v.moment v.left_since g.met.V.Vault.counts_now g.met.V.Vault.only_now m q c.in_ok-publish.ensures.works.0 refl refl refl refl e.stays e.seen
          (λ on known lost stop low logged. unless_err c.sync-synced.result (sym c.is_err-self.ensures.value ∙ on) (e.flushed known lost stop low logged))
          e.any_moment)),
      on_ok_by c.sync-synced.result (λ ok killed cut out.
          synced_outlasts HasBoth v.known v.seen v.may_leave v.moment v.left_since g.met.V.Vault.counts_now g.met.V.Vault.only_now m q c.in_ok-publish.ensures.works.0 refl refl refl refl e.stays e.seen
          (λ on known lost stop low logged. unless_err c.sync-synced.result (sym c.is_err-self.ensures.value ∙ on) (e.flushed known lost stop low logged))
          e.any_moment
          (c.is_err-self.ensures.value ∙ ok_not_err c.sync-synced.result ok) (what ∷ []) (cut ++ what ∷ what ∷ [])
          ((c.in_ok-publish.ensures.lasts what has).1 killed cut (cut ++ what ∷ what ∷ []) out (covering cut what what))),
    )
