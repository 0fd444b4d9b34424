use Rattle.journaled_store.specs.Left.{HasBoth}
use Rattle.journaled_store.specs.Outlasting.{Outlasts, OutlastsSince, point}
use Rattle.journaled_store.proofs.Lasting.{lasts_at}
use Rattle.journaled_store.proofs.Storing.{flushed_both, same_sizes}
use Rattle.journaled_store.proofs.bytes.JournaledStoreByteStore.flush.Goals as goal

pub returns-clause-change : goal.returns-clause-change
returns-clause-change g c F is = c.kept_flush.ensures.change F is

pub returns-clause-sizes : goal.returns-clause-sizes
returns-clause-sizes g c = same_sizes c.args.self.now.store c.kept_flush.new.self.store c.kept_flush.ensures.sizes

pub returns-clause-lasts : goal.returns-clause-lasts
returns-clause-lasts g c F a is shows =
    let v = g.V.Vault in
    let there = flushed_both c.args.self.now.store c.kept_flush.new.self.store c.kept_flush.result F a (c.kept_flush.ensures.change F is) (c.kept_flush.ensures.keys F is) shows in
    lasts_at point (Outlasts HasBoth v.known v.seen v.may_leave) (λ r. v.moment r.vault) (OutlastsSince HasBoth v.left_since) a a c.args.self.now c.kept_flush.new.self (c.kept_flush.ensures.lasts F a is there).0

pub returns-clause-flushed : goal.returns-clause-flushed
returns-clause-flushed g c F a is shows =
    (c.kept_flush.ensures.lasts F a is (flushed_both c.args.self.now.store c.kept_flush.new.self.store c.kept_flush.result F a (c.kept_flush.ensures.change F is) (c.kept_flush.ensures.keys F is) shows)).1

pub returns-clause-keys : goal.returns-clause-keys
returns-clause-keys g c F is = c.kept_flush.ensures.keys F is

pub returns-clause-stays : goal.returns-clause-stays
returns-clause-stays g c F is = c.kept_flush.ensures.follows F is
