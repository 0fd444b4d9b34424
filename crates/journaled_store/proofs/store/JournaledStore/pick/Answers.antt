use Rattle.std.proofs.Common.{refl, ◌∙◌, sym, subst}
use Rattle.tiered_array.specs.Views.{TiersView}
use Rattle.journaled_store.specs.Scrubbing.{HasUnit}
use Rattle.journaled_store.specs.Keeping.{as_whole}
use Rattle.journaled_store.proofs.Keeping.{kept_same}
use Rattle.journaled_store.proofs.Positions.{picked_next, picked_none, picked_unit}
use Rattle.journaled_store.proofs.Storing.{same_parts}
use Rattle.journaled_store.proofs.store.JournaledStore.pick.Goals as goal

pub returns-then-not-collect-clause-kept : goal.returns-then-not-collect-clause-kept
returns-then-not-collect-clause-kept g c =
    let v = g.V.Vault in
    let e = c.collect.ensures in
    kept_same v.known v.seen v.may_leave v.moment v.left_since g.met.V.Vault.counts_now g.met.V.Vault.only_now (as_whole c.args.self.now) _
    (same_parts c.args.self.now.store c.collect.new.store e.same) refl refl refl
    (λ lost cells live. record { step = e.step lost cells live.step; noted = e.noted cells live.noted; rest = λ at. e.rest cells at ∙ live.rest at })

pub returns-clause-kept : goal.returns-clause-kept
returns-clause-kept g c =
    let v = g.V.Vault in
    let e = c.collect.ensures in
    kept_same v.known v.seen v.may_leave v.moment v.left_since g.met.V.Vault.counts_now g.met.V.Vault.only_now (as_whole c.args.self.now) _
    (same_parts c.args.self.now.store c.collect.new.store e.same) refl refl refl
    (λ lost cells live. record { step = e.step lost cells live.step; noted = e.noted cells live.noted; rest = λ at. e.rest cells at ∙ live.rest at })

pub returns-clause-next : goal.returns-clause-next
returns-clause-next g c =
    let w = c.collect.new.changes in
    let u = c.units_of-units.ensures in
    let s = c.step_from.ensures in
    picked_next c.args.self.now.store.tiers.world.array.parts.drives w.lost w.next w.lookup c.args.at c.units_of-units.result (c.if-not-collect.ensures.picked refl) c.collect.ensures.place u.all u.lost u.past
    c.step_from.result.next c.step_from.result.ends s.on s.over s.back

pub returns-clause-none : goal.returns-clause-none
returns-clause-none g c is =
    let w = c.collect.new.changes in
    let u = c.units_of-units.ensures in
    picked_none c.args.self.now.store.tiers.world.array.parts.drives w.lost w.next w.lookup c.args.at c.units_of-units.result (c.if-not-collect.ensures.picked refl) c.collect.ensures.place u.all u.lost u.past
    (c.step_from.ensures.none is)

pub returns-clause-there : goal.returns-clause-there
returns-clause-there g c is =
    let w = c.collect.new.changes in
    let u = c.units_of-units.ensures in
    let drives = c.args.self.now.store.tiers.world.array.parts.drives in
    let unit = picked_unit drives w.lost w.next w.lookup c.args.at c.units_of-units.result (c.if-not-collect.ensures.picked refl) c.collect.ensures.place u.all u.lost u.past (c.step_from.ensures.there is) in
    subst (λ (t : TiersView). HasUnit t.world.array.parts.drives c.args.at w.lookup.unit.items) (sym c.collect.ensures.same.0) unit
