use Rattle.std.proofs.Common.{refl, sym, ◌∙◌}
use Rattle.tiered_array.specs.Views.{TiersView}
use Rattle.byte_store.proofs.Lasts.{lasts_after}
use Rattle.array_store.proofs.Holding.{follows_more}
use Rattle.journaled_store.specs.Outlasting.{Outlasts, OutlastsSince, Point, point}
use Rattle.journaled_store.proofs.Lasting.{lasts_at, moved_lasts}
use Rattle.journaled_store.proofs.Storing.{noting, own_note, same_sizes, shows_on, with_note}
use Rattle.journaled_store.specs.Left.{HasBoth}
use Rattle.journaled_store.proofs.bytes.JournaledStoreByteStore.rest.Goals as goal

-- the store after what its array does ahead
abbrev moved : {V : Type 0} → Point V → TiersView → Point V
moved p t = record { keeper = p.keeper; noted = p.noted; batch = p.batch; failed = p.failed; tiers = t; vault = p.vault }

pub returns-clause-kept : goal.returns-clause-kept
returns-clause-kept g c F is =
    let was = c.args.self.now.store in
    let own = c.args.self.now.unsynced in
    c.tidy.ensures.kept.bytes F (own_note c.rest.new.self was.unsynced own F is.noted (c.rest.ensures.kept (noting was.unsynced F) (with_note was own F is)))

pub returns-clause-stays : goal.returns-clause-stays
returns-clause-stays g c F is =
    let was = c.args.self.now.store in
    let own = c.args.self.now.unsynced in
    follows_more was.tiers c.rest.new.self.tiers c.tidy.new.self.store.tiers (c.rest.ensures.stays (noting was.unsynced F) (with_note was own F is))
    (c.tidy.ensures.kept.follows F (own_note c.rest.new.self was.unsynced own F is.noted (c.rest.ensures.kept (noting was.unsynced F) (with_note was own F is))))

pub returns-clause-lasts : goal.returns-clause-lasts
returns-clause-lasts g c F b is now =
    let v = g.V.Vault in
    let was = c.args.self.now.store in
    let own = c.args.self.now.unsynced in
    let p = point c.args.self.now in
    let q = moved p c.rest.new.self.tiers in
    let follows = c.rest.ensures.stays (noting was.unsynced F) (with_note was own F is) in
    let kept = own_note c.rest.new.self was.unsynced own F is.noted (c.rest.ensures.kept (noting was.unsynced F) (with_note was own F is)) in
    lasts_at point (Outlasts HasBoth v.known v.seen v.may_leave) (λ r. v.moment r.vault) (OutlastsSince HasBoth v.left_since) b b c.args.self.now c.tidy.new.self
    (lasts_after (Outlasts HasBoth v.known v.seen v.may_leave) (λ r. v.moment r.vault) (OutlastsSince HasBoth v.left_since) b b p q (point c.tidy.new.self)
    (moved_lasts HasBoth v.known v.seen v.may_leave v.moment v.left_since g.met.V.Vault.counts_now g.met.V.Vault.only_now p q refl follows (λ on. on) (λ lost cells live. live) b b)
    (c.tidy.ensures.kept.lasts F b kept (shows_on c.tidy.new.self.store.tiers.world.array.keys c.rest.new.self.tiers.world.array.keys F b (λ k. sym (c.tidy.ensures.kept.keys F kept k)) now)))

pub returns-clause-sizes : goal.returns-clause-sizes
returns-clause-sizes g c = same_sizes c.rest.new.self c.tidy.new.self.store c.tidy.ensures.kept.sizes ∙ c.rest.ensures.sizes
