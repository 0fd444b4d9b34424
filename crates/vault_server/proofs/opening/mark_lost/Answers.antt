use Rattle.std.proofs.Common.{ap, subst}
use Rattle.array_store.specs.Stores.{StoreView}
use Rattle.vault.specs.Moments.{LeavesOnly}
use Rattle.journaled_store.specs.Steps.{IsBeforeOrNow}
use Rattle.journaled_store.specs.Outlasting.{point}
use Rattle.journaled_store.proofs.Batching.{when_ok}
use Rattle.journaled_store.proofs.Lasting.{on_ok_by}
use Rattle.vault_server.proofs.Missing.{once_marked}
use Rattle.vault_server.proofs.opening.mark_lost.Goals as goal

pub returns-clause-lasts : goal.returns-clause-lasts
returns-clause-lasts g c = λ what has. (c.publish_durably-marked.ensures.lasts what has).0

pub returns-clause-marks : goal.returns-clause-marks
returns-clause-marks g c = λ what groups drives units absent vault opened.
    let v = g.V.Vault in
    let e = c.publish_durably-marked.ensures in
    let r = c.publish_durably-marked.result in
    let old = c.args.store in
    let new = c.publish_durably-marked.new.self in
    let same = e.same.0 in
    on_ok_by r (λ ok.
    let works = when_ok r ok e.works in
    once_marked v.known v.seen v.may_leave v.moment v.left_since g.met.V.Vault.counts_now g.met.V.Vault.only_now what groups drives units absent vault (point old) (point new) opened (record {
      tiers = ap (λ (s : StoreView). s.tiers) same;
      stays = e.stays;
      still = e.still;
      step = e.step;
      rest = e.rest;
      killed = e.killed;
      logged = e.logged;
      batches = e.batches;
      any_moment = λ known lost live stop low logged. subst (λ (s : StoreView). LeavesOnly v.moment v.left_since stop old.vault new.vault
          (IsBeforeOrNow lost (v.seen old.vault) low s.tiers.world.array.parts.drives)) same (e.any_moment known lost live stop low logged);
    }) works.0 works.1 (λ known lost live. when_ok r ok (e.kept known lost live)) (λ known lost stop low logged. when_ok r ok (e.flushed known lost stop low logged)))
