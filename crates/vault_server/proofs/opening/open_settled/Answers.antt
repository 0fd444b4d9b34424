use Rattle.std.proofs.Common.{◌*◌, ◌≡◌, ◌∙◌, sym, ap, subst}
use Rattle.extents.specs.Sizes.{extent_units}
use Rattle.byte_store.specs.Lasting.{ShowsState}
use Rattle.array_store.specs.Stores.{IsStoreOf, StoreView}
use Rattle.journaled_store.specs.Keeping.{Whole, at_point, as_whole}
use Rattle.journaled_store.specs.Outlasting.{point}
use Rattle.journaled_store.proofs.Batching.{when_ok}
use Rattle.journaled_store.proofs.Lasting.{on_ok_by}
use Rattle.journaled_store.proofs.Storing.{has_both}
use Rattle.array_recovery.proofs.Attesting.{as_found}
use Rattle.vault_server.specs.Served.{HasBegun, IsOn, durable}
use Rattle.vault_server.specs.Missing.{IsOpenedBut}
use Rattle.vault_server.proofs.Begun.{begun_after, left_absent, on_after, shows_then}
use Rattle.vault_server.proofs.opening.open_settled.Goals as goal

pub returns-in-Ok-clause-stays : goal.returns-in-Ok-clause-stays
returns-in-Ok-clause-stays g c = λ known.
    c.settled.ensures.stays (c.mark_lost-store.ensures.stays (subst (λ (w : Whole g.row.V.Denot). g.V.Vault.known w.vault) (sym c.resumed.ensures) (c.in-Ok.ensures.read known).0))

pub returns-in-Ok-clause-honest : goal.returns-in-Ok-clause-honest
returns-in-Ok-clause-honest g c = λ known written last what long left.
    let there = c.in-Ok.ensures.honest known written last what long left in
    let was = subst (λ (w : Whole g.row.V.Denot). ShowsState w.store.tiers.world.array.keys (durable what) what × IsStoreOf w.store.tiers w.store.size w.unsynced (durable what)) (sym c.resumed.ensures) there in
    let same = c.mark_lost-store.ensures.same in
    let now = shows_then c.resumed.result.store c.mark_lost-store.result.0.store c.resumed.result.unsynced c.mark_lost-store.result.0.unsynced (durable what) what same.0 same.1 was in
    c.settled.ensures.shows (durable what) what now.1 now.0

pub returns-in-Ok-clause-both : goal.returns-in-Ok-clause-both
returns-in-Ok-clause-both g c = λ known what long left.
    let base = g.V.Vault.seen c.args.vault in
    returns-in-Ok-clause-honest g c known base.cells (as_found (g.V.Vault.attested c.args.vault) c.args.drives c.args.absent.now base) what long left

pub returns-in-Ok-clause-same : goal.returns-in-Ok-clause-same
returns-in-Ok-clause-same g c = λ known what long left.
    let there = c.in-Ok.ensures.both known what long left in
    let with = c.in-Ok.ensures.same in
    let was = subst (λ (w : Whole g.row.V.Denot). ShowsState w.store.tiers.world.array.keys (durable what) what × IsStoreOf w.store.tiers w.store.size w.unsynced (durable what)) (sym c.resumed.ensures) there in
    let same = c.mark_lost-store.ensures.same in
    let now = shows_then c.resumed.result.store c.mark_lost-store.result.0.store c.resumed.result.unsynced c.mark_lost-store.result.0.unsynced (durable what) what same.0 same.1 was in
    let on = subst (λ (w : Whole g.row.V.Denot). IsOn c.args.groups c.args.drives w.store.tiers) (sym c.resumed.ensures) (record { groups_are = with.groups_are; many = with.many }) in
    on_after c.args.groups c.args.drives c.mark_lost-store.result.0.store.tiers c.settled.result.store.tiers
    (subst (λ (s : StoreView). IsOn c.args.groups c.args.drives s.tiers) (sym same.0) on) (c.settled.ensures.follows (durable what) now.1)

pub returns-in-Ok-clause-size : goal.returns-in-Ok-clause-size
returns-in-Ok-clause-size g c =
    c.settled.ensures.size ∙ ap (λ (s : StoreView). s.size) c.mark_lost-store.ensures.same.0 ∙ ap (λ (w : Whole g.row.V.Denot). w.store.size) c.resumed.ensures ∙ c.in-Ok.ensures.size

pub returns-in-Ok-clause-lasts : goal.returns-in-Ok-clause-lasts
returns-in-Ok-clause-lasts g c = λ known what long sound.
    let vault = g.V.Vault in
    let e = c.in-Ok.ensures in
    let there = e.both known what long (left_absent what c.args.groups c.args.drives c.args.absent.now _ sound.left) in
    let was = subst (λ (w : Whole g.row.V.Denot). ShowsState w.store.tiers.world.array.keys (durable what) what × IsStoreOf w.store.tiers w.store.size w.unsynced (durable what)) (sym c.resumed.ensures) there in
    let same = c.mark_lost-store.ensures.same in
    let now = shows_then c.resumed.result.store c.mark_lost-store.result.0.store c.resumed.result.unsynced c.mark_lost-store.result.0.unsynced (durable what) what same.0 same.1 was in
    let begun = subst (λ (w : Whole g.row.V.Denot). HasBegun vault.known vault.seen vault.may_leave vault.moment vault.left_since (vault.moment c.args.vault) what (at_point w)) (sym c.resumed.ensures)
    (e.begins known what sound) in
    begun_after vault.known vault.seen vault.may_leave vault.moment vault.left_since (vault.moment c.args.vault) what (point c.mark_lost-store.result.0) (point c.settled.result)
    (begun_after vault.known vault.seen vault.may_leave vault.moment vault.left_since (vault.moment c.args.vault) what (point c.resumed.result) (point c.mark_lost-store.result.0) begun
    (c.mark_lost-store.ensures.lasts what (has_both c.resumed.result.store.tiers (durable what) what was.1.holds was.0)))
    (c.settled.ensures.lasts (durable what) what now.1 (has_both c.mark_lost-store.result.0.store.tiers (durable what) what now.1.holds now.0))

pub returns-in-Ok-clause-marks : goal.returns-in-Ok-clause-marks
returns-in-Ok-clause-marks g c = λ known what long sound.
    let vault = g.V.Vault in
    let e = c.in-Ok.ensures in
    let units = c.args.shape.now.extents * extent_units c.args.shape.now.segments in
    let there = e.both known what long sound.left in
    let was = subst (λ (w : Whole g.row.V.Denot). ShowsState w.store.tiers.world.array.keys (durable what) what × IsStoreOf w.store.tiers w.store.size w.unsynced (durable what)) (sym c.resumed.ensures) there in
    let same = c.mark_lost-store.ensures.same in
    let now = shows_then c.resumed.result.store c.mark_lost-store.result.0.store c.resumed.result.unsynced c.mark_lost-store.result.0.unsynced (durable what) what same.0 same.1 was in
    let opened = subst (λ (w : Whole g.row.V.Denot). IsOpenedBut vault.known vault.seen vault.may_leave vault.moment vault.left_since what c.args.groups c.args.drives units c.args.absent.now c.args.vault
    (at_point w)) (sym c.resumed.ensures) (e.missing known what long sound) in
    let r = c.mark_lost-store.result.1 in
    on_ok_by r (λ ok.
    let once = when_ok r ok (c.mark_lost-store.ensures.marks what c.args.groups c.args.drives units c.args.absent.now c.args.vault opened) in record {
      marked = once.marked;
      is_known = once.is_known;
      later = once.later;
      before = once.before;
      since = begun_after vault.known vault.seen vault.may_leave vault.moment vault.left_since (vault.moment once.marked) what (point c.mark_lost-store.result.0) (point c.settled.result) once.since
          (c.settled.ensures.lasts (durable what) what now.1 (has_both c.mark_lost-store.result.0.store.tiers (durable what) what now.1.holds now.0));
    })
