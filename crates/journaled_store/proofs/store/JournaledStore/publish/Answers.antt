use Rattle.std.proofs.Common.{refl, arith, sym, subst, ◌∙◌}
use Rattle.std.proofs.lemmas.Bool.{true≢false}
use Rattle.vault.specs.Moments.{LeavesOnly}
use Rattle.slot_tables.specs.Views.{WorldView}
use Rattle.tiered_array.specs.Views.{TiersView}
use Rattle.vault.proofs.Runs.{started}
use Rattle.vault.specs.Images.{recovered}
use Rattle.journaled_store.specs.Steps.{IsBeforeOrNow, IsPersisted}
use Rattle.journaled_store.specs.Left.{HasBoth, MissesOne}
use Rattle.journaled_store.specs.Outlasting.{point}
use Rattle.journaled_store.proofs.Batching.{logged_now, when_ok}
use Rattle.array_store.proofs.Holding.{follows_same}
use Rattle.journaled_store.proofs.Lasting.{moved_lasts, ok_not_sync, on_ok_by, published_acknowledges, published_lasts, unless_sync}
use Rattle.journaled_store.proofs.store.JournaledStore.publish.Goals as goal

pub returns-then-self-clause-any_moment : goal.returns-then-self-clause-any_moment
returns-then-self-clause-any_moment g c known lost live stop low is =
    let v = g.V.Vault in
    let vault = c.args.self.now.vault in
    let drives = c.args.self.now.store.tiers.world.array.parts.drives in
    started v.moment v.left_since stop vault (IsBeforeOrNow lost (v.seen vault) low drives)
    (λ i left. logged_now v.seen v.may_leave lost stop vault low drives is i (g.met.V.Vault.only_now vault known stop i left))

pub returns-then-has_lost_two-clause-any_moment : goal.returns-then-has_lost_two-clause-any_moment
returns-then-has_lost_two-clause-any_moment g c known lost live stop low is =
    let v = g.V.Vault in
    let vault = c.args.self.now.vault in
    let drives = c.args.self.now.store.tiers.world.array.parts.drives in
    started v.moment v.left_since stop vault (IsBeforeOrNow lost (v.seen vault) low drives)
    (λ i left. logged_now v.seen v.may_leave lost stop vault low drives is i (g.met.V.Vault.only_now vault known stop i left))

pub returns-clause-any_moment : goal.returns-clause-any_moment
returns-clause-any_moment g c known lost live stop low is =
    let v = g.V.Vault in
    let vault = c.args.self.now.vault in
    subst (λ (t : TiersView). LeavesOnly v.moment v.left_since stop vault c.publish-published.new.vault (IsBeforeOrNow lost (v.seen vault) low t.world.array.parts.drives))
    (sym c.publish-published.ensures.same.0)
    (c.publish-published.ensures.any_moment known lost (live c.if-self.false) stop low is)

pub returns-clause-works : goal.returns-clause-works
returns-clause-works g c = on_ok_by c.publish-published.result (λ ok.
    let r = c.publish-published.result in (
      c.is_sync-self.ensures ∙ ok_not_sync r ok,
      subst (λ (t : TiersView). MissesOne t.world.array.parts.drives) (sym c.publish-published.ensures.same.0) (subst (λ (w : WorldView). MissesOne w.array.parts.drives) c.world.ensures (c.has_lost_two.ensures c.if-has_lost_two.false)),
    ))

pub returns-then-self-clause-lasts : goal.returns-then-self-clause-lasts
returns-then-self-clause-lasts g c what has =
    let v = g.V.Vault in
    let p = point c.args.self.now in (
      moved_lasts HasBoth v.known v.seen v.may_leave v.moment v.left_since g.met.V.Vault.counts_now g.met.V.Vault.only_now p p refl (follows_same p.tiers) (λ on. on) (λ lost cells live. live) what what,
      tt,
    )

pub returns-then-has_lost_two-clause-lasts : goal.returns-then-has_lost_two-clause-lasts
returns-then-has_lost_two-clause-lasts g c what has =
    let v = g.V.Vault in
    let p = point c.args.self.now in (
      moved_lasts HasBoth v.known v.seen v.may_leave v.moment v.left_since g.met.V.Vault.counts_now g.met.V.Vault.only_now p p refl (follows_same p.tiers) (λ on. on) (λ lost cells live. live) what what,
      tt,
    )

pub returns-clause-lasts : goal.returns-clause-lasts
returns-clause-lasts g c what has =
    let v = g.V.Vault in
    let e = c.publish-published.ensures in
    let r = c.publish-published.result in
    let works = c.if-self.false in (
      published_lasts HasBoth v.known v.seen v.may_leave v.moment v.left_since g.met.V.Vault.counts_now g.met.V.Vault.only_now (point c.args.self.now) _ what has (subst (λ (w : WorldView). MissesOne w.array.parts.drives) c.world.ensures (c.has_lost_two.ensures c.if-has_lost_two.false)) (record {
        tiers = e.same.0;
        stays = e.stays;
        still = λ failed. absurd (true≢false (sym failed ∙ works));
        step = λ known lost live on. unless_sync r _ (e.step known lost (live works)) (sym c.is_sync-self.ensures ∙ on);
        rest = λ known lost live on. unless_sync r _ (e.rest known lost (live works)) (sym c.is_sync-self.ensures ∙ on);
        killed = λ known lost logged on. unless_sync r _ (e.killed known lost (logged works)) (sym c.is_sync-self.ensures ∙ on);
        logged = λ known lost stop low logged on. (low, omega arith, unless_sync r _ (e.added known lost stop low (logged works)) (sym c.is_sync-self.ensures ∙ on));
        batches = λ known lost live on. unless_sync r _ (e.batches known lost (live works)) (sym c.is_sync-self.ensures ∙ on);
        any_moment = λ known lost live stop low logged. e.any_moment known lost (live works) stop low logged;
      }),
      on_ok_by r (λ ok.
          published_acknowledges HasBoth v.known v.seen v.may_leave v.moment v.left_since g.met.V.Vault.counts_now g.met.V.Vault.only_now (point c.args.self.now) _ what has (subst (λ (w : WorldView). MissesOne w.array.parts.drives) c.world.ensures (c.has_lost_two.ensures c.if-has_lost_two.false)) (record {
            tiers = e.same.0;
            stays = e.stays;
            still = λ failed. absurd (true≢false (sym failed ∙ works));
            step = λ known lost live on. unless_sync r _ (e.step known lost (live works)) (sym c.is_sync-self.ensures ∙ on);
            rest = λ known lost live on. unless_sync r _ (e.rest known lost (live works)) (sym c.is_sync-self.ensures ∙ on);
            killed = λ known lost logged on. unless_sync r _ (e.killed known lost (logged works)) (sym c.is_sync-self.ensures ∙ on);
            logged = λ known lost stop low logged on. (low, omega arith, unless_sync r _ (e.added known lost stop low (logged works)) (sym c.is_sync-self.ensures ∙ on));
            batches = λ known lost live on. unless_sync r _ (e.batches known lost (live works)) (sym c.is_sync-self.ensures ∙ on);
            any_moment = λ known lost live stop low logged. e.any_moment known lost (live works) stop low logged;
          }) (c.is_sync-self.ensures ∙ ok_not_sync r ok)
          (λ known lost live. subst (λ (t : TiersView). IsPersisted lost t.world.array.parts.drives (recovered (v.seen c.publish-published.new.vault))) (sym e.same.0) (when_ok r ok (e.kept known lost (live works))))),
    )

pub returns-then-self-clause-rest : goal.returns-then-self-clause-rest
returns-then-self-clause-rest g c known lost live works at = refl

pub returns-then-has_lost_two-clause-rest : goal.returns-then-has_lost_two-clause-rest
returns-then-has_lost_two-clause-rest g c known lost live works at = refl

pub returns-clause-rest : goal.returns-clause-rest
returns-clause-rest g c known lost live on =
    unless_sync c.publish-published.result _ (c.publish-published.ensures.rest known lost (live c.if-self.false)) (sym c.is_sync-self.ensures ∙ on)
