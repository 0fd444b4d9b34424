use Rattle.std.proofs.Common.{◌≡◌, refl, sym, ◌∙◌, subst, inl, inr}
use Rattle.journaled_store.specs.Keeping.{Whole, as_whole}
use Rattle.journaled_store.proofs.Keeping.{kept_none}
use Rattle.journaled_store.proofs.store.JournaledStore.finish.Goals as goal

pub returns-in-None-clause-kept : goal.returns-in-None-clause-kept
returns-in-None-clause-kept g c =
    let v = g.V.Vault in
    kept_none v.known v.seen v.may_leave v.moment v.left_since g.met.V.Vault.counts_now g.met.V.Vault.only_now (as_whole c.args.self.now)

pub returns-in-Some-Same-clause-kept : goal.returns-in-Some-Same-clause-kept
returns-in-Some-Same-clause-kept g c =
    let v = g.V.Vault in
    kept_none v.known v.seen v.may_leave v.moment v.left_since g.met.V.Vault.counts_now g.met.V.Vault.only_now (as_whole c.args.self.now)

pub returns-in-Some-Waits-clause-kept : goal.returns-in-Some-Waits-clause-kept
returns-in-Some-Waits-clause-kept g c =
    let v = g.V.Vault in
    kept_none v.known v.seen v.may_leave v.moment v.left_since g.met.V.Vault.counts_now g.met.V.Vault.only_now (as_whole c.args.self.now)
