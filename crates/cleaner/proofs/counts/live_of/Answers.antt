use Rattle.std.proofs.Common.{◌≡◌, Some, rules}
use Rattle.extent_groups.specs.declared.class.Class.TheVariants.{Parity}
use Rattle.extent_groups.specs.Groups.{group_at, class_in}
use Rattle.cleaner.proofs.Counting.{live_counted}
use Rattle.cleaner.proofs.counts.live_of.Goals as goal

pub returns-clause-count : goal.returns-clause-count
returns-clause-count g c =
    let made : class_in (group_at c.args.groups.now c.args.group) ≡ Some Parity = search rules in
    live_counted c.args.groups.now (g.L.Live.keys c.args.live.now) c.args.group c.slots_of.result c.count_live.result made c.slots_of.ensures.count c.count_live.ensures
