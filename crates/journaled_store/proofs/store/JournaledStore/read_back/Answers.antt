use Rattle.std.proofs.Common.{◌≡◌, refl, sym, ◌∙◌, subst, inl, inr}
use Rattle.journaled_store.specs.Keeping.{Whole, as_whole}
use Rattle.journaled_store.proofs.Keeping.{kept_given_up, kept_more, kept_none, kept_read}
use Rattle.journaled_store.proofs.store.JournaledStore.read_back.Goals as goal

pub returns-then-len-clause-kept : goal.returns-then-len-clause-kept
returns-then-len-clause-kept g c =
    let v = g.V.Vault in
    kept_none v.known v.seen v.may_leave v.moment v.left_since g.met.V.Vault.counts_now g.met.V.Vault.only_now (as_whole c.args.self.now)

pub returns-in-Ok-clause-kept : goal.returns-in-Ok-clause-kept
returns-in-Ok-clause-kept g c =
    let v = g.V.Vault in
    kept_read v.known v.seen v.may_leave v.moment v.left_since g.met.V.Vault.counts_now g.met.V.Vault.only_now (as_whole c.args.self.now) c.compare.new.vault c.compare.ensures.reads

pub returns-in-Err-clause-kept : goal.returns-in-Err-clause-kept
returns-in-Err-clause-kept g c =
    let v = g.V.Vault in
    let e = c.give_up.ensures in
    let mid : Whole _ = (record { store = c.args.self.now.store; unsynced = c.args.self.now.unsynced; keeper = c.args.self.now.changes.keeper; noted = c.args.self.now.changes.noted; batch = c.args.self.now.changes.batch; failed = c.args.self.now.failed; vault = c.compare.new.vault }) in
    kept_more v.known v.seen v.may_leave v.moment v.left_since g.met.V.Vault.counts_now g.met.V.Vault.only_now (as_whole c.args.self.now) mid (as_whole c.give_up.new.self)
    (kept_read v.known v.seen v.may_leave v.moment v.left_since g.met.V.Vault.counts_now g.met.V.Vault.only_now (as_whole c.args.self.now) c.compare.new.vault c.compare.ensures.reads)
    (kept_given_up v.known v.seen v.may_leave v.moment v.left_since g.met.V.Vault.counts_now g.met.V.Vault.only_now mid (as_whole c.give_up.new.self) e.bytes e.keys e.sizes e.vault e.follows e.stays e.step)
