use Rattle.std.proofs.Common.{◌≡◌, refl, sym, ◌∙◌, subst, inl, inr}
use Rattle.journaled_store.specs.Keeping.{Whole, as_whole}
use Rattle.journaled_store.proofs.Keeping.{kept_more}
use Rattle.journaled_store.proofs.store.JournaledStore.tidy.Goals as goal

pub returns : goal.returns
returns g c =
    let v = g.V.Vault in
    record { kept = kept_more v.known v.seen v.may_leave v.moment v.left_since g.met.V.Vault.counts_now g.met.V.Vault.only_now (as_whole c.args.self.now) (as_whole c.settle_grown.new.self) (as_whole c.scrub_due.new.self) c.settle_grown.ensures.kept c.scrub_due.ensures.kept }
