use Rattle.std.proofs.Common.{false, refl, length}
use Rattle.extents.specs.Failures.{unsteady}
use Rattle.extents.specs.Units.{loss}
use Rattle.array_store.specs.Blocks.{Holds}
use Rattle.journaled_store.specs.Left.{HasKeys}
use Rattle.array_recovery.proofs.Reopening.{outlives, live_now, opened_with}
use Rattle.array_recovery.proofs.reopen.open_found.Goals as goal

pub returns-clause-reopened : goal.returns-clause-reopened
returns-clause-reopened g c = λ d absent bytes is long left.
    let seated = c.in_ok-seated.ensures in
    c.in_ok-store.ensures.bytes left.tiers bytes left.shown long
    (outlives (λ x. x.cache.units) (λ x. x.lost) (λ x. unsteady (loss false x.lost)) c.in_ok-seated.seated.items c.args.found.caches.items c.args.found.marks absent c.args.found.lost
    c.seat_all.new.keeper d seated is.units is.gone is.table Holds bytes c.args.groups (length c.args.found.caches.items) left seated.many
    _ refl refl)

pub returns-clause-map : goal.returns-clause-map
returns-clause-map g c = λ d absent keys is left.
    let seated = c.in_ok-seated.ensures in
    c.in_ok-store.ensures.map left.tiers keys left.shown
    (outlives (λ x. x.cache.units) (λ x. x.lost) (λ x. unsteady (loss false x.lost)) c.in_ok-seated.seated.items c.args.found.caches.items c.args.found.marks absent c.args.found.lost
    c.seat_all.new.keeper d seated is.units is.gone is.table HasKeys keys c.args.groups (length c.args.found.caches.items) left seated.many
    _ refl refl)

pub returns-clause-live : goal.returns-clause-live
returns-clause-live g c = λ d absent lost count size is formed covers ends.
    let seated = c.in_ok-seated.ensures in
    let made = c.in_ok-changes.ensures in
    live_now (λ x. x.cache.units) (λ x. x.lost) (λ x. unsteady (loss false x.lost)) c.in_ok-seated.seated.items c.args.found.caches.items c.args.found.marks absent c.args.found.lost
    c.seat_all.new.keeper d seated is.units is.gone is.table count size lost c.in_ok-changes.changes.keeper c.in_ok-changes.changes.noted c.in_ok-changes.changes.batch
    made.0 made.1 made.2 formed covers ends

pub returns-clause-same : goal.returns-clause-same
returns-clause-same g c = λ absent are.
    let seated = c.in_ok-seated.ensures in
    opened_with (λ x. x.cache.units) (λ x. x.lost) (λ x. unsteady (loss false x.lost)) c.in_ok-seated.seated.items c.args.found.caches.items c.args.found.marks absent c.args.found.lost
    c.seat_all.new.keeper seated are _ c.in_ok-store.store.tiers c.in_ok-changes.changes.noted refl c.in_ok-changes.ensures.2 c.in_ok-store.ensures.same
