use Rattle.migrator.proofs.Firsts.{found_following, found_fresh}
use Rattle.migrator.proofs.first.first_append.Goals as goal

pub returns-in-Some : goal.returns-in-Some
returns-in-Some g c =
    found_following c.args.end.now c.args.groups.now (g.L.Live.keys c.args.live.now) (g.F.Free.free c.args.free.now) c.in-Some.slot c.in-Some.ensures

pub returns : goal.returns
returns g c =
    found_fresh c.args.end.now c.args.groups.now (g.L.Live.keys c.args.live.now) (g.F.Free.free c.args.free.now) c.args.counts.now
    c.first_fresh.ensures.numbers c.requires c.first_fresh.result c.in-None.ensures c.first_fresh.ensures.first
