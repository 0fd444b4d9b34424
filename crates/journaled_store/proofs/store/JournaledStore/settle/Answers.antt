use Rattle.std.proofs.Common.{rules, ◌≡◌, ◌≢◌, ◌<◌, slice_index_or, inr, ℕ, List, Bool, true, length, ap, sym, subst, ◌∙◌}
use Rattle.std.specs.Prelude.{Result}
use Rattle.std.proofs.lemmas.Bool.{true≢false}
use Rattle.vault.specs.Images.{Image, SameOn, Matches, recovered}
use Rattle.vault.specs.Moments.{AreLogged, IsLogged, LeavesOnly}
use Rattle.vault.specs.declared.store.Stop.{Stop}
use Rattle.vault.specs.declared.store.VaultError.{VaultError}
use Rattle.vault.specs.declared.store.VaultError.TheVariants as error
use Rattle.vault.proofs.Runs.{both_runs}
use Rattle.unit_store.specs.Views.{lost_of}
use Rattle.slot_tables.specs.Views.{key_at}
use Rattle.array_store.specs.Stores.{Follows, IsStoreOf, StoreView}
use Rattle.byte_store.proofs.Lasts.{lasts_after}
use Rattle.group_form.specs.Form.{HasGroups}
use Rattle.journaled_store.specs.Left.{HasBoth}
use Rattle.journaled_store.specs.Outlasting.{Outlasts, OutlastsSince, Point, point}
use Rattle.array_store.proofs.Holding.{follows_same}
use Rattle.journaled_store.proofs.Lasting.{moved_lasts}
use Rattle.journaled_store.proofs.SettledLasting.{settled_begins, settled_lasts}
use Rattle.journaled_store.specs.Steps.{IsBeforeOrNow, IsPersisted, IsUpToDate, UnlessFailed, UnlessJournal}
use Rattle.journaled_store.proofs.Settled.{groups_on, kept_on, live_on, not_journal, table_on, table_there, tables_on}
use Rattle.journaled_store.proofs.store.JournaledStore.settle.Goals as goal

pub returns-in_err-published-clause-bytes : goal.returns-in_err-published-clause-bytes
returns-in_err-published-clause-bytes g c F is =
    let same = c.publish_durably-published.ensures.same in
    subst (λ (s : StoreView). IsStoreOf s.tiers s.size c.publish_durably-published.new.self.unsynced F) (sym same.0)
    (subst (λ b. IsStoreOf c.args.self.now.store.tiers c.args.self.now.store.size b F) (sym same.1) is)

pub returns-in-Ok-clause-bytes : goal.returns-in-Ok-clause-bytes
returns-in-Ok-clause-bytes g c F is =
    let same = c.publish_durably-published.ensures.same in
    subst (λ (s : StoreView). IsStoreOf s.tiers s.size c.publish_durably-published.new.self.unsynced F) (sym same.0)
    (subst (λ b. IsStoreOf c.args.self.now.store.tiers c.args.self.now.store.size b F) (sym same.1) is)

pub returns-in-Err-clause-bytes : goal.returns-in-Err-clause-bytes
returns-in-Err-clause-bytes g c F is =
    let same = c.publish_durably-published.ensures.same in
    c.give_up.ensures.bytes F
    (subst (λ (s : StoreView). IsStoreOf s.tiers s.size c.publish_durably-published.new.self.unsynced F) (sym same.0)
    (subst (λ b. IsStoreOf c.args.self.now.store.tiers c.args.self.now.store.size b F) (sym same.1) is))

pub returns-in_err-published-clause-step : goal.returns-in_err-published-clause-step
returns-in_err-published-clause-step g c known live low logged works = c.publish_durably-published.ensures.step known c.lost-lost.result live works

pub returns-in_err-published-clause-logged : goal.returns-in_err-published-clause-logged
returns-in_err-published-clause-logged g c known low logged works stop =
    let more = c.publish_durably-published.ensures.logged known c.lost-lost.result stop (low stop) (logged stop) works in (more.0, more.2)

pub returns-in_err-published-clause-any_moment : goal.returns-in_err-published-clause-any_moment
returns-in_err-published-clause-any_moment g c known live low logged stop =
    let v = g.V.Vault in
    let lost = c.lost-lost.result in
    subst (λ (s : StoreView). LeavesOnly v.moment v.left_since stop c.args.self.now.vault c.publish_durably-published.new.self.vault
    (IsBeforeOrNow lost (v.seen c.args.self.now.vault) (low stop) s.tiers.world.array.parts.drives)) c.publish_durably-published.ensures.same.0
    (c.publish_durably-published.ensures.any_moment known lost live stop (low stop) (logged stop))

pub returns-in-Ok-clause-settled : goal.returns-in-Ok-clause-settled
returns-in-Ok-clause-settled g c known live low logged =
    let v = g.V.Vault in
    let lost = c.lost-lost.result in
    let mid = recovered (v.seen c.publish_durably-published.new.self.vault) in
    let now = c.publish_durably-published.ensures.stays known in
    let all : AreLogged v.seen v.may_leave lost c.publish_durably-published.new.self.vault = λ stop. c.in_ok-published.ensures.flushed known lost stop (low stop) (logged stop) in
    record {
      empty = c.in-Ok.ensures.empty now all;
      durable = c.in-Ok.ensures.logged now all;
      kept = subst (λ (s : StoreView). IsPersisted lost s.tiers.world.array.parts.drives (recovered (v.seen c.settle_vault.new.vault))) c.publish_durably-published.ensures.same.0
          (kept_on lost c.publish_durably-published.new.self.store.tiers.world.array.parts.drives mid (recovered (v.seen c.settle_vault.new.vault)) (table_there lost c.settle_vault.ensures.long)
          (c.in-Ok.ensures.units now all) (c.in_ok-published.ensures.kept known lost live));
      rest = tables_on (recovered (v.seen c.args.self.now.vault)) mid (recovered (v.seen c.settle_vault.new.vault))
          (table_on lost mid (recovered (v.seen c.settle_vault.new.vault)) (table_there lost c.settle_vault.ensures.long) (c.in-Ok.ensures.units now all))
          (c.publish_durably-published.ensures.rest known lost live c.in_ok-published.ensures.works.0);
    }

pub returns-in-Ok-clause-step : goal.returns-in-Ok-clause-step
returns-in-Ok-clause-step g c known live low logged works =
    let v = g.V.Vault in
    let changes = c.publish_durably-published.new.self.changes in
    let lost = c.lost-lost.result in
    let now = c.publish_durably-published.ensures.stays known in
    let all : AreLogged v.seen v.may_leave lost c.publish_durably-published.new.self.vault = λ stop. c.in_ok-published.ensures.flushed known lost stop (low stop) (logged stop) in
    live_on lost changes.keeper changes.noted changes.batch (recovered (v.seen c.publish_durably-published.new.self.vault)) (recovered (v.seen c.settle_vault.new.vault)) (table_there lost c.settle_vault.ensures.long)
    (c.in-Ok.ensures.units now all) (c.publish_durably-published.ensures.step known lost live works)

pub returns-in-Ok-clause-logged : goal.returns-in-Ok-clause-logged
returns-in-Ok-clause-logged g c known low logged works stop =
    let v = g.V.Vault in
    let lost = c.lost-lost.result in
    let now = c.publish_durably-published.ensures.stays known in
    let all : AreLogged v.seen v.may_leave lost c.publish_durably-published.new.self.vault = λ s. c.in_ok-published.ensures.flushed known lost s (low s) (logged s) in
    (length (Image.journal (v.seen c.settle_vault.new.vault)), c.in-Ok.ensures.logged now all stop)

pub returns-in-Ok-clause-any_moment : goal.returns-in-Ok-clause-any_moment
returns-in-Ok-clause-any_moment g c known live low logged stop =
    let v = g.V.Vault in
    let old = c.args.self.now.vault in
    let mid = c.publish_durably-published.new.self.vault in
    let lost = c.lost-lost.result in
    let all : AreLogged v.seen v.may_leave lost mid = λ s. c.in_ok-published.ensures.flushed known lost s (low s) (λ works. logged s) in
    let here : Image → Type 0 = IsBeforeOrNow lost (v.seen old) (low stop) c.publish_durably-published.new.self.store.tiers.world.array.parts.drives in
    subst (λ (s : StoreView). LeavesOnly v.moment v.left_since stop old c.settle_vault.new.vault (IsBeforeOrNow lost (v.seen old) (low stop) s.tiers.world.array.parts.drives)) c.publish_durably-published.ensures.same.0
    (both_runs v.moment v.left_since stop old mid c.settle_vault.new.vault here (Matches lost (recovered (v.seen mid))) here
    (c.publish_durably-published.ensures.any_moment known lost live stop (low stop) (logged stop))
    (c.settle_vault.ensures.any_moment (c.publish_durably-published.ensures.stays known) all stop)
    (λ i now. now)
    (λ i matches. inr (
      recovered (v.seen mid),
      matches,
      c.in_ok-published.ensures.kept known lost live,
      c.publish_durably-published.ensures.rest known lost live c.in_ok-published.ensures.works.0,
    )))

pub returns-in-Err-clause-step : goal.returns-in-Err-clause-step
returns-in-Err-clause-step g c known live low logged works =
    let v = g.V.Vault in
    let f = c.args.self.now.failed in
    let was = c.args.self.now.changes in
    let old = c.args.self.now.vault in
    let changes = c.publish_durably-published.new.self.changes in
    let lost = c.lost-lost.result in
    let mid = c.publish_durably-published.new.self.vault in
    let new = c.settle_vault.new.vault in
    let now = c.publish_durably-published.ensures.stays known in
    let live_now : UnlessFailed f (IsUpToDate lost was.keeper was.noted was.batch (recovered (v.seen old))) =
    subst (λ (l : List Bool). UnlessFailed f (IsUpToDate l was.keeper was.noted was.batch (recovered (v.seen old)))) c.give_up.ensures.lost live in
    let all : AreLogged v.seen v.may_leave lost mid = λ stop. c.in_ok-published.ensures.flushed known lost stop (low stop)
    (subst (λ (l : List Bool). UnlessFailed f (IsLogged v.seen v.may_leave l stop old (low stop))) c.give_up.ensures.lost (logged stop)) in
    let never : c.in-Err.error ≢ error.Journal = λ e. true≢false (sym (c.give_up.ensures.failed e) ∙ works) in
    let units : SameOn lost (recovered (v.seen new)) (recovered (v.seen mid)) = not_journal c.in-Err.error (SameOn lost (recovered (v.seen new)) (recovered (v.seen mid))) never
    (subst (λ (r : Result (Unit {0}) VaultError). UnlessJournal r (SameOn lost (recovered (v.seen new)) (recovered (v.seen mid)))) c.in-Err.is (c.settle_vault.ensures.units now all)) in
    let left : IsUpToDate lost c.give_up.new.self.changes.keeper c.give_up.new.self.changes.noted c.give_up.new.self.changes.batch (recovered (v.seen new)) =
    c.give_up.ensures.step lost (recovered (v.seen new))
    (live_on lost changes.keeper changes.noted changes.batch (recovered (v.seen mid)) (recovered (v.seen new)) (table_there lost c.settle_vault.ensures.long) units
    (c.publish_durably-published.ensures.step known lost live_now c.in_ok-published.ensures.works.0)) in
    subst (λ (l : List Bool). IsUpToDate l c.give_up.new.self.changes.keeper c.give_up.new.self.changes.noted c.give_up.new.self.changes.batch (recovered (v.seen c.give_up.new.self.vault))) (sym c.give_up.ensures.lost)
    (subst (λ w. IsUpToDate lost c.give_up.new.self.changes.keeper c.give_up.new.self.changes.noted c.give_up.new.self.changes.batch (recovered (v.seen w))) (sym c.give_up.ensures.vault) left)

pub returns-in-Err-clause-logged : goal.returns-in-Err-clause-logged
returns-in-Err-clause-logged g c known low logged works stop =
    let v = g.V.Vault in
    let f = c.args.self.now.failed in
    let old = c.args.self.now.vault in
    let lost = c.lost-lost.result in
    let mid = c.publish_durably-published.new.self.vault in
    let new = c.settle_vault.new.vault in
    let now = c.publish_durably-published.ensures.stays known in
    let all : AreLogged v.seen v.may_leave lost mid = λ s. c.in_ok-published.ensures.flushed known lost s (low s)
    (subst (λ (l : List Bool). UnlessFailed f (IsLogged v.seen v.may_leave l s old (low s))) c.give_up.ensures.lost (logged s)) in
    let never : c.in-Err.error ≢ error.Journal = λ e. true≢false (sym (c.give_up.ensures.failed e) ∙ works) in
    let left : AreLogged v.seen v.may_leave lost new = not_journal c.in-Err.error (AreLogged v.seen v.may_leave lost new) never
    (subst (λ (r : Result (Unit {0}) VaultError). UnlessJournal r (AreLogged v.seen v.may_leave lost new)) c.in-Err.is (c.settle_vault.ensures.logged now all)) in (
      length (Image.journal (v.seen new)),
      subst (λ (l : List Bool). IsLogged v.seen v.may_leave l stop c.give_up.new.self.vault (length (Image.journal (v.seen new)))) (sym c.give_up.ensures.lost)
          (subst (λ w. IsLogged v.seen v.may_leave lost stop w (length (Image.journal (v.seen new)))) (sym c.give_up.ensures.vault) (left stop)),
    )

pub returns-in-Err-clause-any_moment : goal.returns-in-Err-clause-any_moment
returns-in-Err-clause-any_moment g c known live low logged stop =
    let v = g.V.Vault in
    let f = c.args.self.now.failed in
    let was = c.args.self.now.changes in
    let old = c.args.self.now.vault in
    let mid = c.publish_durably-published.new.self.vault in
    let lost = c.lost-lost.result in
    let live_now : UnlessFailed f (IsUpToDate lost was.keeper was.noted was.batch (recovered (v.seen old))) =
    subst (λ (l : List Bool). UnlessFailed f (IsUpToDate l was.keeper was.noted was.batch (recovered (v.seen old)))) c.give_up.ensures.lost live in
    let logged_now : (s : Stop) → IsLogged v.seen v.may_leave lost s old (low s) = λ s. subst (λ (l : List Bool). IsLogged v.seen v.may_leave l s old (low s)) c.give_up.ensures.lost (logged s) in
    let all : AreLogged v.seen v.may_leave lost mid = λ s. c.in_ok-published.ensures.flushed known lost s (low s) (λ works. logged_now s) in
    let here : Image → Type 0 = IsBeforeOrNow lost (v.seen old) (low stop) c.publish_durably-published.new.self.store.tiers.world.array.parts.drives in
    let run : LeavesOnly v.moment v.left_since stop old c.settle_vault.new.vault here = both_runs v.moment v.left_since stop old mid c.settle_vault.new.vault here (Matches lost (recovered (v.seen mid))) here
    (c.publish_durably-published.ensures.any_moment known lost live_now stop (low stop) (logged_now stop))
    (c.settle_vault.ensures.any_moment (c.publish_durably-published.ensures.stays known) all stop)
    (λ i now. now)
    (λ i matches. inr (
      recovered (v.seen mid),
      matches,
      c.in_ok-published.ensures.kept known lost live_now,
      c.publish_durably-published.ensures.rest known lost live_now c.in_ok-published.ensures.works.0,
    )) in
    subst (λ (l : List Bool). LeavesOnly v.moment v.left_since stop old c.give_up.new.self.vault (IsBeforeOrNow l (v.seen old) (low stop) c.args.self.now.store.tiers.world.array.parts.drives)) (sym c.give_up.ensures.lost)
    (subst (λ w. LeavesOnly v.moment v.left_since stop old w (IsBeforeOrNow lost (v.seen old) (low stop) c.args.self.now.store.tiers.world.array.parts.drives)) (sym c.give_up.ensures.vault)
    (subst (λ (s : StoreView). LeavesOnly v.moment v.left_since stop old c.settle_vault.new.vault (IsBeforeOrNow lost (v.seen old) (low stop) s.tiers.world.array.parts.drives)) c.publish_durably-published.ensures.same.0 run))

pub returns-in_err-published-clause-follows : goal.returns-in_err-published-clause-follows
returns-in_err-published-clause-follows g c F is =
    let was = c.args.self.now.store in
    subst (λ (s : StoreView). Follows was.tiers s.tiers) (sym c.publish_durably-published.ensures.same.0) (follows_same was.tiers)

pub returns-in-Ok-clause-follows : goal.returns-in-Ok-clause-follows
returns-in-Ok-clause-follows g c F is =
    let was = c.args.self.now.store in
    subst (λ (s : StoreView). Follows was.tiers s.tiers) (sym c.publish_durably-published.ensures.same.0) (follows_same was.tiers)

pub returns-in-Err-clause-follows : goal.returns-in-Err-clause-follows
returns-in-Err-clause-follows g c F is =
    let was = c.args.self.now.store in
    let same = c.publish_durably-published.ensures.same in
    subst (λ (s : StoreView). Follows s.tiers c.give_up.new.self.store.tiers) same.0
    (c.give_up.ensures.follows F (subst (λ (s : StoreView). IsStoreOf s.tiers s.size c.publish_durably-published.new.self.unsynced F) (sym same.0)
    (subst (λ b. IsStoreOf was.tiers was.size b F) (sym same.1) is)))

pub returns-in_err-published-clause-lasts : goal.returns-in_err-published-clause-lasts
returns-in_err-published-clause-lasts g c F what is has = (c.publish_durably-published.ensures.lasts what has).0

pub returns-in-Ok-clause-lasts : goal.returns-in-Ok-clause-lasts
returns-in-Ok-clause-lasts g c F what is has =
    let v = g.V.Vault in
    let e = c.publish_durably-published.ensures in
    let same = e.same.0 in
    let o = c.in_ok-published.ensures in
    let n = c.settle_vault.ensures in
    let p = point c.args.self.now in
    let m = point c.publish_durably-published.new.self in
    let are : (d : ℕ) → d < 16 → slice_index_or c.lost-lost.result d true ≡ lost_of c.args.self.now.store.tiers.world.array.parts d = search rules in
    settled_lasts HasBoth v.known v.seen v.may_leave v.moment v.left_since g.met.V.Vault.counts_now g.met.V.Vault.only_now p m what has (record {
      tiers = ap (λ (s : StoreView). s.tiers) same;
      stays = e.stays;
      still = e.still;
      step = e.step;
      rest = e.rest;
      killed = e.killed;
      logged = e.logged;
      batches = e.batches;
      any_moment = λ known lost live stop low logged. subst (λ (s : StoreView). LeavesOnly v.moment v.left_since stop c.args.self.now.vault c.publish_durably-published.new.self.vault
          (IsBeforeOrNow lost (v.seen c.args.self.now.vault) low s.tiers.world.array.parts.drives)) same (e.any_moment known lost live stop low logged);
    }) o.works.0 o.works.1 o.kept o.flushed c.lost-lost.result n.long
    (λ d low. subst (λ (s : StoreView). slice_index_or c.lost-lost.result d true ≡ lost_of s.tiers.world.array.parts d) (sym same) (are d low))
    c.settle_vault.new.vault m.failed n.stays (λ known all on. c.in-Ok.ensures.units known all) (λ known all on. c.in-Ok.ensures.logged known all) n.any_moment

pub returns-in-Err-clause-lasts : goal.returns-in-Err-clause-lasts
returns-in-Err-clause-lasts g c F what is has =
    let v = g.V.Vault in
    let e = c.publish_durably-published.ensures in
    let same = e.same.0 in
    let o = c.in_ok-published.ensures in
    let n = c.settle_vault.ensures in
    let p = point c.args.self.now in
    let m = point c.publish_durably-published.new.self in
    let q = point c.give_up.new.self in
    let mid : Point _ = record { keeper = m.keeper; noted = m.noted; batch = m.batch; failed = q.failed; tiers = m.tiers; vault = c.settle_vault.new.vault } in
    let was = c.args.self.now.store in
    let are : (d : ℕ) → d < 16 → slice_index_or c.lost-lost.result d true ≡ lost_of c.args.self.now.store.tiers.world.array.parts d = search rules in
    let follows : Follows m.tiers q.tiers = c.give_up.ensures.follows F (subst (λ (s : StoreView). IsStoreOf s.tiers s.size c.publish_durably-published.new.self.unsynced F) (sym same)
    (subst (λ b. IsStoreOf was.tiers was.size b F) (sym e.same.1) is)) in
    lasts_after (Outlasts HasBoth v.known v.seen v.may_leave) (λ r. v.moment r.vault) (OutlastsSince HasBoth v.left_since) what what p mid q
    (settled_lasts HasBoth v.known v.seen v.may_leave v.moment v.left_since g.met.V.Vault.counts_now g.met.V.Vault.only_now p m what has (record {
      tiers = ap (λ (s : StoreView). s.tiers) same;
      stays = e.stays;
      still = e.still;
      step = e.step;
      rest = e.rest;
      killed = e.killed;
      logged = e.logged;
      batches = e.batches;
      any_moment = λ known lost live stop low logged. subst (λ (s : StoreView). LeavesOnly v.moment v.left_since stop c.args.self.now.vault c.publish_durably-published.new.self.vault
          (IsBeforeOrNow lost (v.seen c.args.self.now.vault) low s.tiers.world.array.parts.drives)) same (e.any_moment known lost live stop low logged);
    }) o.works.0 o.works.1 o.kept o.flushed c.lost-lost.result n.long
    (λ d low. subst (λ (s : StoreView). slice_index_or c.lost-lost.result d true ≡ lost_of s.tiers.world.array.parts d) (sym same) (are d low))
    c.settle_vault.new.vault q.failed n.stays
    (λ known all on. not_journal c.in-Err.error _ (λ j. true≢false (sym (c.give_up.ensures.failed j) ∙ on))
    (subst (λ (r : Result (Unit {0}) VaultError). UnlessJournal r (SameOn c.lost-lost.result (recovered (v.seen c.settle_vault.new.vault)) (recovered (v.seen m.vault)))) c.in-Err.is (n.units known all)))
    (λ known all on. not_journal c.in-Err.error _ (λ j. true≢false (sym (c.give_up.ensures.failed j) ∙ on))
    (subst (λ (r : Result (Unit {0}) VaultError). UnlessJournal r (AreLogged v.seen v.may_leave c.lost-lost.result c.settle_vault.new.vault)) c.in-Err.is (n.logged known all)))
    n.any_moment)
    (moved_lasts HasBoth v.known v.seen v.may_leave v.moment v.left_since g.met.V.Vault.counts_now g.met.V.Vault.only_now mid q c.give_up.ensures.vault follows (λ on. on) c.give_up.ensures.step what what)

pub returns-in-Ok-clause-begins : goal.returns-in-Ok-clause-begins
returns-in-Ok-clause-begins g c known what has groups live low logged =
    let v = g.V.Vault in
    let e = c.publish_durably-published.ensures in
    let same = e.same.0 in
    let o = c.in_ok-published.ensures in
    let n = c.settle_vault.ensures in
    let m = point c.publish_durably-published.new.self in
    let q : Point _ = record { keeper = m.keeper; noted = m.noted; batch = m.batch; failed = m.failed; tiers = m.tiers; vault = c.settle_vault.new.vault } in
    let done = returns-in-Ok-clause-settled g c known live low logged in
    let are : (d : ℕ) → d < 16 → slice_index_or c.lost-lost.result d true ≡ lost_of c.args.self.now.store.tiers.world.array.parts d = search rules in
    settled_begins HasBoth v.known v.seen v.may_leave v.moment v.left_since g.met.V.Vault.counts_now g.met.V.Vault.only_now q what (subst (λ (s : StoreView). HasBoth s.tiers what) (sym same) has) o.works.1 c.lost-lost.result n.long
    (λ d low. subst (λ (s : StoreView). slice_index_or c.lost-lost.result d true ≡ lost_of s.tiers.world.array.parts d) (sym same) (are d low))
    (n.stays (e.stays known)) (returns-in-Ok-clause-step g c known live low logged o.works.0) done.durable
    (subst (λ (s : StoreView). IsPersisted c.lost-lost.result s.tiers.world.array.parts.drives (recovered (v.seen c.settle_vault.new.vault))) (sym same) done.kept)
    (subst (λ (s : StoreView). HasGroups s.tiers.world.array.parts.groups (length s.tiers.world.array.parts.drives) (recovered (v.seen c.settle_vault.new.vault))) (sym same)
    (groups_on c.args.self.now.store.tiers.world.array.parts.groups (length c.args.self.now.store.tiers.world.array.parts.drives) (recovered (v.seen c.args.self.now.vault))
    (recovered (v.seen c.settle_vault.new.vault)) done.rest groups))

pub returns-in_err-published-clause-keys : goal.returns-in_err-published-clause-keys
returns-in_err-published-clause-keys g c F is block = ap (λ (s : StoreView). key_at s.tiers.world.array block) c.publish_durably-published.ensures.same.0

pub returns-in-Ok-clause-keys : goal.returns-in-Ok-clause-keys
returns-in-Ok-clause-keys g c F is block = ap (λ (s : StoreView). key_at s.tiers.world.array block) c.publish_durably-published.ensures.same.0

pub returns-in-Err-clause-keys : goal.returns-in-Err-clause-keys
returns-in-Err-clause-keys g c F is block =
    let was = c.args.self.now.store in
    let same = c.publish_durably-published.ensures.same in
    c.give_up.ensures.keys F
    (subst (λ (s : StoreView). IsStoreOf s.tiers s.size c.publish_durably-published.new.self.unsynced F) (sym same.0) (subst (λ b. IsStoreOf was.tiers was.size b F) (sym same.1) is)) block
    ∙ ap (λ (s : StoreView). key_at s.tiers.world.array block) same.0
