use Rattle.std.proofs.Common.{◌≡◌, refl, sym, ◌∙◌, subst, inl, inr}
use Rattle.journaled_store.specs.Keeping.{Whole, as_whole}
use Rattle.journaled_store.proofs.Keeping.{kept_none, kept_settled}
use Rattle.journaled_store.proofs.store.JournaledStore.settle_grown.Goals as goal

pub returns-then-self : goal.returns-then-self
returns-then-self g c =
    let v = g.V.Vault in
    record { kept = kept_settled v.known v.seen v.may_leave v.moment v.left_since g.met.V.Vault.counts_now g.met.V.Vault.only_now (as_whole c.args.self.now) (as_whole c.settle.new.self) c.settle.ensures.bytes c.settle.ensures.keys c.settle.ensures.sizes c.settle.ensures.stays c.settle.ensures.follows c.settle.ensures.lasts }

pub returns-else-self : goal.returns-else-self
returns-else-self g c =
    let v = g.V.Vault in
    record { kept = kept_none v.known v.seen v.may_leave v.moment v.left_since g.met.V.Vault.counts_now g.met.V.Vault.only_now (as_whole c.args.self.now) }
