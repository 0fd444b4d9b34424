use Rattle.std.proofs.Common.{◌*◌, ◌≡◌, ◌∙◌, [], ◌∷◌, refl, sym, ap, subst}
use Rattle.extents.specs.Sizes.{extent_units}
use Rattle.array_store.specs.Stores.{StoreView}
use Rattle.vault.specs.declared.store.Stop.TheVariants.{Killed}
use Rattle.journaled_store.specs.Left.{HasBoth}
use Rattle.journaled_store.specs.Outlasting.{Point, point}
use Rattle.journaled_store.proofs.Lasting.{begun}
use Rattle.array_recovery.proofs.Attesting.{as_found}
use Rattle.array_recovery.proofs.Outlasting.{opened_during, works}
use Rattle.vault_server.specs.Served.{HasBegun}
use Rattle.vault_server.specs.Missing.{IsOpenedBut}
use Rattle.vault_server.proofs.opening.recovered_store.Goals as goal

pub returns-in-Ok-clause-honest : goal.returns-in-Ok-clause-honest
returns-in-Ok-clause-honest g c = λ known written last what long left.
    let parts = c.new.ensures.parts.0 in
    let there = subst (λ (s : StoreView). HasBoth s.tiers what) (sym parts) (c.in-Ok.ensures.honest known written last what long left).0 in (
      record { bytes_are = refl; keys_are = there.keys_are },
      record {
        holds = there.holds;
        long = long ∙ sym (ap (λ (s : StoreView). s.size) parts ∙ c.in-Ok.ensures.size);
        noted = sym c.new.ensures.flags.0;
      },
    )

pub returns-in-Ok-clause-both : goal.returns-in-Ok-clause-both
returns-in-Ok-clause-both g c = λ known what long left.
    let base = g.V.Vault.seen c.args.vault in
    returns-in-Ok-clause-honest g c known base.cells (as_found (g.V.Vault.attested c.args.vault) c.args.drives c.args.absent.now base) what long left

pub returns-in-Ok-clause-begins : goal.returns-in-Ok-clause-begins
returns-in-Ok-clause-begins g c = λ known what is.
    let v = g.V.Vault in
    let reported = c.in-Ok.ensures in
    let s = c.new.result in
    let changes = c.in-Ok.changes in
    let before = c.args.vault in
    let now = c.recover.new.vault in
    let read = reported.read known in
    let units = c.args.shape.now.extents * extent_units c.args.shape.now.segments in
    let made : Point g.row.V.Denot = record { keeper = changes.keeper; noted = changes.noted; batch = changes.batch; failed = s.failed; tiers = c.in-Ok.store.tiers; vault = now } in
    let same : point s ≡ made =
    ap (λ d. record { keeper = d.keeper; noted = d.noted; batch = d.batch; failed = s.failed; tiers = s.store.tiers; vault = s.vault }) c.new.ensures.parts.1
    ∙ ap (λ d. record { keeper = changes.keeper; noted = changes.noted; batch = changes.batch; failed = s.failed; tiers = d.tiers; vault = s.vault }) c.new.ensures.parts.0
    ∙ ap (λ d. record { keeper = changes.keeper; noted = changes.noted; batch = changes.batch; failed = s.failed; tiers = c.in-Ok.store.tiers; vault = d }) c.new.ensures.parts.2 in
    subst (λ (p : Point g.row.V.Denot). HasBegun v.known v.seen v.may_leave v.moment v.left_since (v.moment before) what p) (sym same) (record {
      early = (read.time Killed).later;
      now = begun HasBoth v.known v.seen v.may_leave v.moment v.left_since g.met.V.Vault.counts_now g.met.V.Vault.only_now made (what ∷ []) (what ∷ []) (reported.stays known)
          (works HasBoth v.seen v.may_leave v.moment v.left_since what c.args.groups c.args.drives units c.args.absent.now before is made read reported.long (reported.marks known) reported.same (reported.live known));
      then = opened_during HasBoth v.seen v.may_leave v.moment v.left_since what c.args.groups c.args.drives units c.args.absent.now before is v.known (λ w. g.met.V.Vault.counts_now w)
          (λ w. g.met.V.Vault.only_now w) made read reported.long (reported.marks known) reported.same (reported.live known) known;
    })

pub returns-in-Ok-clause-missing : goal.returns-in-Ok-clause-missing
returns-in-Ok-clause-missing g c = λ known what long sound.
    let v = g.V.Vault in
    let reported = c.in-Ok.ensures in
    let s = c.new.result in
    let changes = c.in-Ok.changes in
    let now = c.recover.new.vault in
    let units = c.args.shape.now.extents * extent_units c.args.shape.now.segments in
    let made : Point g.row.V.Denot = record { keeper = changes.keeper; noted = changes.noted; batch = changes.batch; failed = s.failed; tiers = c.in-Ok.store.tiers; vault = now } in
    let same : point s ≡ made =
    ap (λ d. record { keeper = d.keeper; noted = d.noted; batch = d.batch; failed = s.failed; tiers = s.store.tiers; vault = s.vault }) c.new.ensures.parts.1
    ∙ ap (λ d. record { keeper = changes.keeper; noted = changes.noted; batch = changes.batch; failed = s.failed; tiers = d.tiers; vault = s.vault }) c.new.ensures.parts.0
    ∙ ap (λ d. record { keeper = changes.keeper; noted = changes.noted; batch = changes.batch; failed = s.failed; tiers = c.in-Ok.store.tiers; vault = d }) c.new.ensures.parts.2 in
    subst (λ (p : Point g.row.V.Denot). IsOpenedBut v.known v.seen v.may_leave v.moment v.left_since what c.args.groups c.args.drives units c.args.absent.now c.args.vault p) (sym same) (record {
      sound = sound;
      was_known = known;
      is_known = reported.stays known;
      read = reported.read known;
      shown = reported.both known what long sound.left;
      opened = reported.same;
      table = reported.marks known;
      long = reported.long;
      wide = c.told-absent;
      live = reported.live known;
    })
