use Rattle.std.proofs.Common.{◌≢◌, Some, rules, eqb-true, eq-eqb}
use Rattle.cleaner.proofs.Counting.{empty_counted}
use Rattle.cleaner.proofs.clean.is_empty.Goals as goal

pub returns-in-Some : goal.returns-in-Some
returns-in-Some g c =
    let other : c.args.write ≢ Some c.args.group = search rules in
    let both = empty_counted c.args.groups.now (g.L.Live.keys c.args.live.now) c.args.write c.args.group c.in-Some.count other c.in-Some.ensures.count in
    ((λ t. both.0 (eqb-true c.in-Some.count 0 t)), (λ e. eq-eqb c.in-Some.count 0 (both.1 e)))
