use Rattle.std.proofs.Common.{◌≤◌, subst}
use Rattle.extent_groups.specs.Groups.{Groups, group_at, slots_in}
use Rattle.tiered_array.proofs.asks.count_live.Goals as goal

pub returns-then-slots-slots_of : goal.returns-then-slots-slots_of
returns-then-slots-slots_of g c =
    let slots = c.args.slots in
    let few = subst (λ n. n ≤ slots) c.slots_of.ensures.count c.if-slots-slots_of.true in
    c.live_count.ensures slots (subst (λ (t : Groups). slots_in t.segments (group_at t c.args.group) ≤ slots) c.groups.ensures few)
