use Rattle.std.proofs.Common.{refl, arith}
use Rattle.std.proofs.lemmas.Bool.Decides.{nat_tests}
use Rattle.migrator.proofs.Picks.{none_counted, idle_counts}
use Rattle.migrator.proofs.append.is_idle.Goals as goal

pub returns-else-slots-eq0 : goal.returns-else-slots-eq0
returns-else-slots-eq0 g c =
    let keys = g.L.Live.keys c.args.live.now in
    let slots = c.count_of-slots in
    let count = c.count_live in (
      (λ is. none_counted c.args.groups.now keys c.args.group slots.result count.result slots.ensures.just count.ensures (grind (arith, nat_tests, is))),
      (λ idle. let none = idle_counts c.args.groups.now keys c.args.group slots.result count.result slots.ensures.just count.ensures idle in rw (none) refl),
    )
