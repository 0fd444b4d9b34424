use Rattle.std.proofs.Common.{◌≡◌, refl, sym, ◌∙◌, subst, inl, inr}
use Rattle.journaled_store.specs.Keeping.{Whole, as_whole}
use Rattle.journaled_store.proofs.Keeping.{kept_more, kept_settled}
use Rattle.journaled_store.proofs.store.JournaledStore.mend.Goals as goal

pub returns-then-not-put_again-clause-kept : goal.returns-then-not-put_again-clause-kept
returns-then-not-put_again-clause-kept g c =
    c.put_again.ensures.kept

pub returns-in_err-settle-clause-kept : goal.returns-in_err-settle-clause-kept
returns-in_err-settle-clause-kept g c =
    let v = g.V.Vault in
    kept_more v.known v.seen v.may_leave v.moment v.left_since g.met.V.Vault.counts_now g.met.V.Vault.only_now (as_whole c.args.self.now) (as_whole c.put_again.new.self) (as_whole c.settle.new.self) c.put_again.ensures.kept
    (kept_settled v.known v.seen v.may_leave v.moment v.left_since g.met.V.Vault.counts_now g.met.V.Vault.only_now (as_whole c.put_again.new.self) (as_whole c.settle.new.self) c.settle.ensures.bytes c.settle.ensures.keys c.settle.ensures.sizes c.settle.ensures.stays c.settle.ensures.follows c.settle.ensures.lasts)

pub returns-in_err-check-clause-kept : goal.returns-in_err-check-clause-kept
returns-in_err-check-clause-kept g c =
    let v = g.V.Vault in
    let settled = kept_more v.known v.seen v.may_leave v.moment v.left_since g.met.V.Vault.counts_now g.met.V.Vault.only_now (as_whole c.args.self.now) (as_whole c.put_again.new.self) (as_whole c.settle.new.self) c.put_again.ensures.kept
    (kept_settled v.known v.seen v.may_leave v.moment v.left_since g.met.V.Vault.counts_now g.met.V.Vault.only_now (as_whole c.put_again.new.self) (as_whole c.settle.new.self) c.settle.ensures.bytes c.settle.ensures.keys c.settle.ensures.sizes c.settle.ensures.stays c.settle.ensures.follows c.settle.ensures.lasts) in
    kept_more v.known v.seen v.may_leave v.moment v.left_since g.met.V.Vault.counts_now g.met.V.Vault.only_now (as_whole c.args.self.now) (as_whole c.settle.new.self) (as_whole c.check.new.self) settled c.check.ensures.kept

pub returns-in-Some-Same-clause-kept : goal.returns-in-Some-Same-clause-kept
returns-in-Some-Same-clause-kept g c =
    let v = g.V.Vault in
    let settled = kept_more v.known v.seen v.may_leave v.moment v.left_since g.met.V.Vault.counts_now g.met.V.Vault.only_now (as_whole c.args.self.now) (as_whole c.put_again.new.self) (as_whole c.settle.new.self) c.put_again.ensures.kept
    (kept_settled v.known v.seen v.may_leave v.moment v.left_since g.met.V.Vault.counts_now g.met.V.Vault.only_now (as_whole c.put_again.new.self) (as_whole c.settle.new.self) c.settle.ensures.bytes c.settle.ensures.keys c.settle.ensures.sizes c.settle.ensures.stays c.settle.ensures.follows c.settle.ensures.lasts) in
    kept_more v.known v.seen v.may_leave v.moment v.left_since g.met.V.Vault.counts_now g.met.V.Vault.only_now (as_whole c.args.self.now) (as_whole c.settle.new.self) (as_whole c.check.new.self) settled c.check.ensures.kept

pub returns-in_default-clause-kept : goal.returns-in_default-clause-kept
returns-in_default-clause-kept g c =
    let v = g.V.Vault in
    let settled = kept_more v.known v.seen v.may_leave v.moment v.left_since g.met.V.Vault.counts_now g.met.V.Vault.only_now (as_whole c.args.self.now) (as_whole c.put_again.new.self) (as_whole c.settle.new.self) c.put_again.ensures.kept
    (kept_settled v.known v.seen v.may_leave v.moment v.left_since g.met.V.Vault.counts_now g.met.V.Vault.only_now (as_whole c.put_again.new.self) (as_whole c.settle.new.self) c.settle.ensures.bytes c.settle.ensures.keys c.settle.ensures.sizes c.settle.ensures.stays c.settle.ensures.follows c.settle.ensures.lasts) in
    kept_more v.known v.seen v.may_leave v.moment v.left_since g.met.V.Vault.counts_now g.met.V.Vault.only_now (as_whole c.args.self.now) (as_whole c.settle.new.self) (as_whole c.check.new.self) settled c.check.ensures.kept

pub returns-in_default-2-clause-kept : goal.returns-in_default-2-clause-kept
returns-in_default-2-clause-kept g c =
    let v = g.V.Vault in
    let settled = kept_more v.known v.seen v.may_leave v.moment v.left_since g.met.V.Vault.counts_now g.met.V.Vault.only_now (as_whole c.args.self.now) (as_whole c.put_again.new.self) (as_whole c.settle.new.self) c.put_again.ensures.kept
    (kept_settled v.known v.seen v.may_leave v.moment v.left_since g.met.V.Vault.counts_now g.met.V.Vault.only_now (as_whole c.put_again.new.self) (as_whole c.settle.new.self) c.settle.ensures.bytes c.settle.ensures.keys c.settle.ensures.sizes c.settle.ensures.stays c.settle.ensures.follows c.settle.ensures.lasts) in
    kept_more v.known v.seen v.may_leave v.moment v.left_since g.met.V.Vault.counts_now g.met.V.Vault.only_now (as_whole c.args.self.now) (as_whole c.settle.new.self) (as_whole c.check.new.self) settled c.check.ensures.kept
