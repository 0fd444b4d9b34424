use Rattle.std.proofs.Common.{refl}
use Rattle.journaled_store.specs.Outlasting.{Outlasts, OutlastsSince, point}
use Rattle.journaled_store.proofs.Lasting.{lasts_at, moved_lasts}
use Rattle.journaled_store.proofs.Storing.{noting, own_note, with_note}
use Rattle.journaled_store.specs.Left.{HasBoth}
use Rattle.journaled_store.proofs.bytes.JournaledStoreByteStore.read.Goals as goal

pub returns-clause-kept : goal.returns-clause-kept
returns-clause-kept g c F is =
    let was = c.args.self.now.store in
    let now = c.read.new.self in
    own_note now was.unsynced c.args.self.now.unsynced F is.noted (c.read.ensures.kept (noting was.unsynced F) (with_note was c.args.self.now.unsynced F is))

pub returns-clause-value : goal.returns-clause-value
returns-clause-value g c F is = c.read.ensures.value (noting c.args.self.now.store.unsynced F) (with_note c.args.self.now.store c.args.self.now.unsynced F is)

pub returns-clause-stays : goal.returns-clause-stays
returns-clause-stays g c F is = c.read.ensures.stays (noting c.args.self.now.store.unsynced F) (with_note c.args.self.now.store c.args.self.now.unsynced F is)

pub returns-clause-lasts : goal.returns-clause-lasts
returns-clause-lasts g c F a is was =
    let v = g.V.Vault in
    let p = point c.args.self.now in
    lasts_at point (Outlasts HasBoth v.known v.seen v.may_leave) (λ r. v.moment r.vault) (OutlastsSince HasBoth v.left_since) a a c.args.self.now _
    (moved_lasts HasBoth v.known v.seen v.may_leave v.moment v.left_since g.met.V.Vault.counts_now g.met.V.Vault.only_now p (record { keeper = p.keeper; noted = p.noted; batch = p.batch; failed = p.failed; tiers = c.read.new.self.tiers; vault = p.vault }) refl
    (c.read.ensures.stays (noting c.args.self.now.store.unsynced F) (with_note c.args.self.now.store c.args.self.now.unsynced F is)) (λ on. on) (λ lost cells live. live) a a)
