use Rattle.std.proofs.Common.{ℕ, Some, ◌≡◌}
use Rattle.std.proofs.lemmas.Result.{IfOk-weaker}
use Rattle.extent_groups.specs.declared.class.Class.TheVariants.{Parity}
use Rattle.map_join.specs.Lists.{Lists}
use Rattle.map_join.proofs.Rising.{lists_same}
use Rattle.migrator.specs.Slots.{IsTailSlot}
use Rattle.migrator.specs.Picking.{IsPicked, IsFreeFrom}
use Rattle.migrator.proofs.append.slots_following.Goals as goal

pub returns : goal.returns
returns g c =
    let groups = c.args.groups.now in
    let end = c.args.end.now in
    let keys = g.L.Live.keys c.args.live.now in
    let P = IsPicked Parity groups (λ (group : ℕ). end.group ≡ Some group) (IsFreeFrom end.next keys) in
    IfOk-weaker c.picked_in.result (λ v. Lists P v.items) (λ v. Lists (IsTailSlot end groups keys) v.items)
    (λ v h. lists_same P (IsTailSlot end groups keys) v.items
    (λ s p. record { slot_of = p.slot_of; own = p.group_too; from = p.slot_too.from; free = p.slot_too.free })
    (λ s q. record { slot_of = q.slot_of; group_too = q.own; slot_too = record { from = q.from; free = q.free } }) h)
    c.picked_in.ensures
