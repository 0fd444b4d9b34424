use Rattle.std.proofs.Common.{◌≡◌, refl, sym, ◌∙◌, subst, inl, inr}
use Rattle.journaled_store.specs.Keeping.{Whole, as_whole}
use Rattle.journaled_store.proofs.Keeping.{kept_none}
use Rattle.journaled_store.proofs.store.JournaledStore.scrub_due.Goals as goal

pub returns-else-self-ge-SCRUB_EVERY : goal.returns-else-self-ge-SCRUB_EVERY
returns-else-self-ge-SCRUB_EVERY g c =
    let v = g.V.Vault in
    record { kept = kept_none v.known v.seen v.may_leave v.moment v.left_since g.met.V.Vault.counts_now g.met.V.Vault.only_now (as_whole c.args.self.now) }
