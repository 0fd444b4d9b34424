use Rattle.migrator.proofs.Firsts.{room_on, room_aside}
use Rattle.migrator.proofs.first.first_room.Goals as goal

pub returns-in-Some : goal.returns-in-Some
returns-in-Some g c =
    room_on c.args.end.now c.args.groups.now (g.L.Live.keys c.args.live.now) (g.F.Free.free c.args.free.now) c.in-Some.slot c.in-Some.ensures

pub returns : goal.returns
returns g c =
    room_aside c.args.end.now c.args.groups.now (g.L.Live.keys c.args.live.now) (g.F.Free.free c.args.free.now) c.first_parity.result c.in-None.ensures c.first_parity.ensures
