use Rattle.array_store.specs.Blocks.{Holds}
use Rattle.journaled_store.specs.Left.{HasBoth, HasKeys}
use Rattle.journaled_store.proofs.Lasting.{begun}
use Rattle.journaled_store.proofs.store.JournaledStore.new.Goals as goal

pub returns-clause-lasts : goal.returns-clause-lasts
returns-clause-lasts g c known killed cut works =
    let v = g.V.Vault in
    begun Holds v.known v.seen v.may_leave v.moment v.left_since g.met.V.Vault.counts_now g.met.V.Vault.only_now _ killed cut known works

pub returns-clause-map : goal.returns-clause-map
returns-clause-map g c known killed cut works =
    let v = g.V.Vault in
    begun HasKeys v.known v.seen v.may_leave v.moment v.left_since g.met.V.Vault.counts_now g.met.V.Vault.only_now _ killed cut known works

pub returns-clause-both : goal.returns-clause-both
returns-clause-both g c known killed cut works =
    let v = g.V.Vault in
    begun HasBoth v.known v.seen v.may_leave v.moment v.left_since g.met.V.Vault.counts_now g.met.V.Vault.only_now _ killed cut known works
