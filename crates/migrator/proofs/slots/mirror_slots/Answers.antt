use Rattle.std.proofs.Common.{ℕ}
use Rattle.std.proofs.lemmas.Result.{IfOk-weaker}
use Rattle.extent_groups.specs.declared.class.Class.TheVariants.{Mirrored}
use Rattle.extent_groups.specs.Stores.{IsSlotOf}
use Rattle.map_join.specs.Lists.{Lists}
use Rattle.map_join.proofs.Rising.{lists_same}
use Rattle.migrator.specs.Picking.{IsPicked}
use Rattle.migrator.proofs.slots.mirror_slots.Goals as goal

pub returns : goal.returns
returns c =
    let groups = c.args.groups.now in
    let every = λ (n : ℕ). Unit {0} in
    IfOk-weaker c.picked_slots.result (λ v. Lists (IsPicked Mirrored groups every every) v.items) (λ v. Lists (λ s. IsSlotOf Mirrored groups s) v.items)
    (λ v h. lists_same (IsPicked Mirrored groups every every) (λ s. IsSlotOf Mirrored groups s) v.items (λ s p. p.slot_of)
    (λ s q. record { slot_of = q; group_too = tt; slot_too = tt }) h)
    c.picked_slots.ensures
