use Rattle.std.proofs.Common.{ℕ}
use Rattle.std.proofs.lemmas.Result.{IfOk-weaker}
use Rattle.extent_groups.specs.declared.class.Class.TheVariants.{Parity}
use Rattle.map_join.specs.Lists.{Lists}
use Rattle.map_join.proofs.Rising.{lists_same}
use Rattle.migrator.specs.Slots.{IsFresh}
use Rattle.migrator.specs.Picking.{IsPicked, IsOtherIdle}
use Rattle.migrator.proofs.append.fresh_slots.Goals as goal

pub returns : goal.returns
returns g c =
    let groups = c.args.groups.now in
    let end = c.args.end.now in
    let keys = g.L.Live.keys c.args.live.now in
    let P = IsPicked Parity groups (IsOtherIdle end groups keys) (λ (slot : ℕ). Unit {0}) in
    IfOk-weaker c.picked_slots.result (λ v. Lists P v.items) (λ v. Lists (IsFresh end groups keys) v.items)
    (λ v h. lists_same P (IsFresh end groups keys) v.items
    (λ s p. record { slot_of = p.slot_of; other = p.group_too.other; idle = p.group_too.idle })
    (λ s q. record { slot_of = q.slot_of; group_too = record { other = q.other; idle = q.idle }; slot_too = tt }) h)
    c.picked_slots.ensures
