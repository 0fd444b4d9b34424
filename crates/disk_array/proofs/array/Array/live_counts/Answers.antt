use Rattle.std.proofs.Common.{◌≤◌, sym, subst, get_or}
use Rattle.map_join.specs.Live.{IsLiveCount}
use Rattle.extent_groups.specs.Groups.{group_at, slots_in}
use Rattle.slot_tables.specs.Views.{ArrayView, key_at}
use Rattle.disk_array.specs.Inside.{seen}
use Rattle.disk_array.proofs.Living.{live_counted}
use Rattle.disk_array.proofs.array.Array.live_counts.Goals as goal

pub returns-clause-each : goal.returns-clause-each
returns-clause-each g c group low slots enough =
    let d = g.D.Drive in
    let now = seen d.units d.lost d.failures c.self.inside in
    let few = subst (λ (v : ArrayView). slots_in v.parts.groups.segments (group_at v.parts.groups group) ≤ slots) (sym c.self.view_is) enough in
    let counted = live_counted now c.self.inside.live group slots c.self.invariant.0 low c.self.invariant.2.live few in
    subst (λ (v : ArrayView). IsLiveCount (key_at v) group slots (get_or c.self.inside.live group 0)) c.self.view_is counted
