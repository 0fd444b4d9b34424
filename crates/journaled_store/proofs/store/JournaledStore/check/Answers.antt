use Rattle.std.proofs.Common.{◌≡◌, refl, sym, ◌∙◌, subst, inl, inr}
use Rattle.journaled_store.specs.Keeping.{Whole, as_whole}
use Rattle.std.specs.Prelude.{length}
use Rattle.array_store.specs.Stores.{StoreView}
use Rattle.vault.specs.Images.{Image}
use Rattle.std.proofs.lemmas.Option.{same_Some}
use Rattle.journaled_store.specs.declared.comparing.Compared.{Compared}
use Rattle.journaled_store.specs.Scrubbing.{HasUnit}
use Rattle.journaled_store.proofs.Keeping.{kept_more, kept_none}
use Rattle.journaled_store.proofs.Positions.{found_held, found_waits, not_false}
use Rattle.journaled_store.proofs.store.JournaledStore.check.Goals as goal

pub returns-then-self-clause-kept : goal.returns-then-self-clause-kept
returns-then-self-clause-kept g c =
    let v = g.V.Vault in
    kept_none v.known v.seen v.may_leave v.moment v.left_since g.met.V.Vault.counts_now g.met.V.Vault.only_now (as_whole c.args.self.now)

pub returns-then-has_lost_two-clause-kept : goal.returns-then-has_lost_two-clause-kept
returns-then-has_lost_two-clause-kept g c =
    let v = g.V.Vault in
    kept_none v.known v.seen v.may_leave v.moment v.left_since g.met.V.Vault.counts_now g.met.V.Vault.only_now (as_whole c.args.self.now)

pub returns-in_default-clause-kept : goal.returns-in_default-clause-kept
returns-in_default-clause-kept g c =
    c.pick.ensures.kept

pub returns-in_err-found-clause-kept : goal.returns-in_err-found-clause-kept
returns-in_err-found-clause-kept g c =
    let v = g.V.Vault in
    kept_more v.known v.seen v.may_leave v.moment v.left_since g.met.V.Vault.counts_now g.met.V.Vault.only_now (as_whole c.args.self.now) (as_whole c.pick.new.self) (as_whole c.read_back.new.self) c.pick.ensures.kept c.read_back.ensures.kept

pub returns-clause-kept : goal.returns-clause-kept
returns-clause-kept g c =
    let v = g.V.Vault in
    kept_more v.known v.seen v.may_leave v.moment v.left_since g.met.V.Vault.counts_now g.met.V.Vault.only_now (as_whole c.args.self.now) (as_whole c.pick.new.self) (as_whole c.read_back.new.self) c.pick.ensures.kept c.read_back.ensures.kept

pub returns-clause-same : goal.returns-clause-same
returns-clause-same g c known is =
    let v = g.V.Vault in
    let now = c.read_back.new.self in
    let unit = c.pick.new.self.changes.lookup.unit.items in
    let e = c.in_ok-found.ensures in
    let there : HasUnit now.store.tiers.world.array.parts.drives c.args.at unit =
    subst (λ (s : StoreView). HasUnit s.tiers.world.array.parts.drives c.args.at unit) (sym e.array) (c.in-Some.ensures.there (not_false c.in-Some.step.is_there c.if-not-step.false)) in
    found_held (v.attested now.vault) (Image.cells (v.seen now.vault)) now.store.tiers.world.array.parts.drives c.args.at unit c.in_ok-found.found there (e.found (c.pick.ensures.kept.stays known)) is

pub returns-clause-waits : goal.returns-clause-waits
returns-clause-waits g c known is =
    let v = g.V.Vault in
    let now = c.read_back.new.self in
    let unit = c.pick.new.self.changes.lookup.unit.items in
    let e = c.in_ok-found.ensures in
    let k = c.pick.ensures.kept.stays known in (
      found_waits (v.attested now.vault) (Image.cells (v.seen now.vault)) now.store.tiers.world.array.parts.drives c.args.at unit c.in_ok-found.found (e.found k) is,
      e.waits k (same_Some c.in_ok-found.found Compared.Waits is),
    )
