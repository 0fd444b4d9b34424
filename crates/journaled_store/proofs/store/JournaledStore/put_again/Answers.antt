use Rattle.std.proofs.Common.{refl, ◌∙◌, sym, subst}
use Rattle.journaled_store.specs.Keeping.{as_whole}
use Rattle.std.proofs.Common.{◌<◌, arith}
use Rattle.journaled_store.specs.Scrubbing.{HasUnit}
use Rattle.journaled_store.proofs.Keeping.{kept_same}
use Rattle.journaled_store.proofs.Positions.{picked_low, picked_unit}
use Rattle.journaled_store.proofs.Rewriting.{live_put}
use Rattle.journaled_store.proofs.Storing.{same_parts}
use Rattle.journaled_store.proofs.store.JournaledStore.put_again.Goals as goal

pub returns-then-not-collect : goal.returns-then-not-collect
returns-then-not-collect g c =
    let v = g.V.Vault in
    let e = c.collect.ensures in
    record {
      kept = kept_same v.known v.seen v.may_leave v.moment v.left_since g.met.V.Vault.counts_now g.met.V.Vault.only_now (as_whole c.args.self.now) _
          (same_parts c.args.self.now.store c.collect.new.store e.same) refl refl refl
          (λ lost cells live. record { step = e.step lost cells live.step; noted = e.noted cells live.noted; rest = λ at. e.rest cells at ∙ live.rest at });
    }

pub returns-then-at-units_of : goal.returns-then-at-units_of
returns-then-at-units_of g c =
    let v = g.V.Vault in
    let e = c.collect.ensures in
    record {
      kept = kept_same v.known v.seen v.may_leave v.moment v.left_since g.met.V.Vault.counts_now g.met.V.Vault.only_now (as_whole c.args.self.now) _
          (same_parts c.args.self.now.store c.collect.new.store e.same) refl refl refl
          (λ lost cells live. record { step = e.step lost cells live.step; noted = e.noted cells live.noted; rest = λ at. e.rest cells at ∙ live.rest at });
    }

pub returns : goal.returns
returns g c =
    let v = g.V.Vault in
    let e = c.collect.ensures in
    let w = c.collect.new.changes in
    let u = c.units_of.ensures in
    let at = c.args.at in
    let drives = c.args.self.now.store.tiers.world.array.parts.drives in
    let picked = c.if-not-collect.ensures.picked refl in
    let within : at.address < c.units_of.result = omega (arith, c.if-at-units_of.false) in
    record {
      kept = kept_same v.known v.seen v.may_leave v.moment v.left_since g.met.V.Vault.counts_now g.met.V.Vault.only_now (as_whole c.args.self.now) _
          (same_parts c.args.self.now.store c.collect.new.store e.same) refl refl refl
          (λ lost cells live. live_put lost w.keeper w.noted w.batch c.push.new.self cells drives at c.deref.result.now c.place_at_position.result c.push.result c.place_at_position.ensures
          (picked_low drives w.lost w.next w.lookup at c.units_of.result picked e.place u.all u.lost u.past within)
          (subst (HasUnit drives at) (sym c.deref.ensures.value) (picked_unit drives w.lost w.next w.lookup at c.units_of.result picked e.place u.all u.lost u.past within))
          (c.if-not-collect.ensures.has refl lost cells live.step)
          (record { step = e.step lost cells live.step; noted = e.noted cells live.noted; rest = λ a. e.rest cells a ∙ live.rest a })
          c.push.ensures.ok c.push.ensures.err);
    }
