use Rattle.std.proofs.Common.{◌*◌, ◌≡◌, ◌≤◌, ◌∙◌, [], ◌∷◌, refl, sym, ap, subst}
use Rattle.extents.specs.Sizes.{extent_units}
use Rattle.slot_tables.specs.Views.{key_at}
use Rattle.array_store.specs.Blocks.{Holds}
use Rattle.array_store.specs.Stores.{StoreView}
use Rattle.journaled_store.specs.Left.{HasBoth, HasKeys}
use Rattle.journaled_store.specs.Outlasting.{OutlastsSince, Point, Works, point}
use Rattle.vault.specs.declared.store.Stop.TheVariants.{Killed}
use Rattle.vault.specs.Images.{recovered}
use Rattle.array_recovery.specs.Found.{IsTable, with_cells}
use Rattle.array_recovery.proofs.Attesting.{as_found}
use Rattle.array_recovery.proofs.Outlasting.{opened_during, works}
use Rattle.array_recovery.proofs.open.open_store.Goals as goal

pub returns-in-Ok-clause-lasts : goal.returns-in-Ok-clause-lasts
returns-in-Ok-clause-lasts g c = λ known bytes long is.
    let reported = c.in-Ok.ensures in
    let s = c.new.result in
    let changes = c.in-Ok.changes in
    let now = c.recover.new.vault in
    let made : Point g.row.V.Denot = record { keeper = changes.keeper; noted = changes.noted; batch = changes.batch; failed = s.failed; tiers = c.in-Ok.store.tiers; vault = now } in
    let same : point s ≡ made =
    ap (λ d. record { keeper = d.keeper; noted = d.noted; batch = d.batch; failed = s.failed; tiers = s.store.tiers; vault = s.vault }) c.new.ensures.parts.1
    ∙ ap (λ d. record { keeper = changes.keeper; noted = changes.noted; batch = changes.batch; failed = s.failed; tiers = d.tiers; vault = s.vault }) c.new.ensures.parts.0
    ∙ ap (λ d. record { keeper = changes.keeper; noted = changes.noted; batch = changes.batch; failed = s.failed; tiers = c.in-Ok.store.tiers; vault = d }) c.new.ensures.parts.2 in
    c.new.ensures.lasts (reported.stays known) (bytes ∷ []) (bytes ∷ [])
    (subst (λ p. Works Holds g.V.Vault.seen g.V.Vault.may_leave p (bytes ∷ []) (bytes ∷ [])) (sym same)
    (works Holds g.V.Vault.seen g.V.Vault.may_leave g.V.Vault.moment g.V.Vault.left_since bytes c.args.groups c.args.drives (c.args.shape.now.extents * extent_units c.args.shape.now.segments)
    c.args.absent.now c.args.vault is made (reported.read known) reported.long (reported.marks known) reported.same (reported.live known)))

pub returns-in-Ok-clause-map_lasts : goal.returns-in-Ok-clause-map_lasts
returns-in-Ok-clause-map_lasts g c = λ known keys is.
    let reported = c.in-Ok.ensures in
    let s = c.new.result in
    let changes = c.in-Ok.changes in
    let now = c.recover.new.vault in
    let made : Point g.row.V.Denot = record { keeper = changes.keeper; noted = changes.noted; batch = changes.batch; failed = s.failed; tiers = c.in-Ok.store.tiers; vault = now } in
    let same : point s ≡ made =
    ap (λ d. record { keeper = d.keeper; noted = d.noted; batch = d.batch; failed = s.failed; tiers = s.store.tiers; vault = s.vault }) c.new.ensures.parts.1
    ∙ ap (λ d. record { keeper = changes.keeper; noted = changes.noted; batch = changes.batch; failed = s.failed; tiers = d.tiers; vault = s.vault }) c.new.ensures.parts.0
    ∙ ap (λ d. record { keeper = changes.keeper; noted = changes.noted; batch = changes.batch; failed = s.failed; tiers = c.in-Ok.store.tiers; vault = d }) c.new.ensures.parts.2 in
    c.new.ensures.map (reported.stays known) (keys ∷ []) (keys ∷ [])
    (subst (λ p. Works HasKeys g.V.Vault.seen g.V.Vault.may_leave p (keys ∷ []) (keys ∷ [])) (sym same)
    (works HasKeys g.V.Vault.seen g.V.Vault.may_leave g.V.Vault.moment g.V.Vault.left_since keys c.args.groups c.args.drives (c.args.shape.now.extents * extent_units c.args.shape.now.segments)
    c.args.absent.now c.args.vault is made (reported.read known) reported.long (reported.marks known) reported.same (reported.live known)))

pub returns-in-Ok-clause-both_last : goal.returns-in-Ok-clause-both_last
returns-in-Ok-clause-both_last g c = λ known what is.
    let reported = c.in-Ok.ensures in
    let s = c.new.result in
    let changes = c.in-Ok.changes in
    let now = c.recover.new.vault in
    let made : Point g.row.V.Denot = record { keeper = changes.keeper; noted = changes.noted; batch = changes.batch; failed = s.failed; tiers = c.in-Ok.store.tiers; vault = now } in
    let same : point s ≡ made =
    ap (λ d. record { keeper = d.keeper; noted = d.noted; batch = d.batch; failed = s.failed; tiers = s.store.tiers; vault = s.vault }) c.new.ensures.parts.1
    ∙ ap (λ d. record { keeper = changes.keeper; noted = changes.noted; batch = changes.batch; failed = s.failed; tiers = d.tiers; vault = s.vault }) c.new.ensures.parts.0
    ∙ ap (λ d. record { keeper = changes.keeper; noted = changes.noted; batch = changes.batch; failed = s.failed; tiers = c.in-Ok.store.tiers; vault = d }) c.new.ensures.parts.2 in
    c.new.ensures.both (reported.stays known) (what ∷ []) (what ∷ [])
    (subst (λ p. Works HasBoth g.V.Vault.seen g.V.Vault.may_leave p (what ∷ []) (what ∷ [])) (sym same)
    (works HasBoth g.V.Vault.seen g.V.Vault.may_leave g.V.Vault.moment g.V.Vault.left_since what c.args.groups c.args.drives (c.args.shape.now.extents * extent_units c.args.shape.now.segments)
    c.args.absent.now c.args.vault is made (reported.read known) reported.long (reported.marks known) reported.same (reported.live known)))

pub returns-in-Ok-clause-during : goal.returns-in-Ok-clause-during
returns-in-Ok-clause-during g c = λ known what is.
    let reported = c.in-Ok.ensures in
    let s = c.new.result in
    let changes = c.in-Ok.changes in
    let before = c.args.vault in
    let now = c.recover.new.vault in
    let read = reported.read known in
    let made : Point g.row.V.Denot = record { keeper = changes.keeper; noted = changes.noted; batch = changes.batch; failed = s.failed; tiers = c.in-Ok.store.tiers; vault = now } in
    let same : point s ≡ made =
    ap (λ d. record { keeper = d.keeper; noted = d.noted; batch = d.batch; failed = s.failed; tiers = s.store.tiers; vault = s.vault }) c.new.ensures.parts.1
    ∙ ap (λ d. record { keeper = changes.keeper; noted = changes.noted; batch = changes.batch; failed = s.failed; tiers = d.tiers; vault = s.vault }) c.new.ensures.parts.0
    ∙ ap (λ d. record { keeper = changes.keeper; noted = changes.noted; batch = changes.batch; failed = s.failed; tiers = c.in-Ok.store.tiers; vault = d }) c.new.ensures.parts.2 in
    subst (λ (p : Point g.row.V.Denot). (g.V.Vault.moment before ≤ g.V.Vault.moment p.vault) × OutlastsSince HasBoth g.V.Vault.left_since p (g.V.Vault.moment before) (what ∷ []) (what ∷ []))
    (sym same) (
      (read.time Killed).later,
      opened_during HasBoth g.V.Vault.seen g.V.Vault.may_leave g.V.Vault.moment g.V.Vault.left_since what c.args.groups c.args.drives
          (c.args.shape.now.extents * extent_units c.args.shape.now.segments) c.args.absent.now before is g.V.Vault.known (λ v. g.met.V.Vault.counts_now v) (λ v. g.met.V.Vault.only_now v) made read reported.long
          (reported.marks known) reported.same (reported.live known) known,
    )

pub returns-in-Ok-clause-reopened : goal.returns-in-Ok-clause-reopened
returns-in-Ok-clause-reopened g c = λ known bytes long left.
    let parts = c.new.ensures.parts.0 in
    record {
      holds = subst (λ (s : StoreView). Holds s.tiers bytes) (sym parts) (c.in-Ok.ensures.reopened known bytes long left).holds;
      long = long ∙ sym (ap (λ (s : StoreView). s.size) parts ∙ c.in-Ok.ensures.size);
      noted = sym c.new.ensures.flags.0;
    }

pub returns-in-Ok-clause-map : goal.returns-in-Ok-clause-map
returns-in-Ok-clause-map g c = λ known keys left block.
    ap (λ (s : StoreView). key_at s.tiers.world.array block) c.new.ensures.parts.0 ∙ c.in-Ok.ensures.map known keys left block

pub returns-in-Ok-clause-honest : goal.returns-in-Ok-clause-honest
returns-in-Ok-clause-honest g c = λ known written last what long left.
    let parts = c.new.ensures.parts in
    let opened = c.in-Ok.ensures.honest known written last what long left in
    let there = subst (λ (s : StoreView). HasBoth s.tiers what) (sym parts.0) opened.0 in (
      record { bytes_are = refl; keys_are = there.keys_are },
      record {
        holds = there.holds;
        long = long ∙ sym (ap (λ (s : StoreView). s.size) parts.0 ∙ c.in-Ok.ensures.size);
        noted = sym c.new.ensures.flags.0;
      },
      subst (λ d. IsTable d.noted (recovered (with_cells (g.V.Vault.seen c.args.vault) written))) (sym parts.1) opened.1,
    )

pub returns-in-Ok-clause-both : goal.returns-in-Ok-clause-both
returns-in-Ok-clause-both g c = λ known what long left.
    let base = g.V.Vault.seen c.args.vault in
    let is = returns-in-Ok-clause-honest g c known base.cells (as_found (g.V.Vault.attested c.args.vault) c.args.drives c.args.absent.now base) what long left in (is.0, is.1)
