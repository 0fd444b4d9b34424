use Rattle.tiered_array.proofs.Rooms.{spares_none, spares_one, spare_stops}
use Rattle.tiered_array.proofs.tiers.Tiers.make_spare.Goals as goal

pub returns-in-Some-clause-ok : goal.returns-in-Some-clause-ok
returns-in-Some-clause-ok g c w = spares_one c.args.self.now c.open_mirror.new.self w c.in-Some.field-0 c.in-Some.ensures.first

pub returns-in-None-clause-ok : goal.returns-in-None-clause-ok
returns-in-None-clause-ok g c w = spares_none c.args.self.now c.open_mirror.new.self c.make_room.new.self w c.make_room.result c.in-None.ensures.first (c.make_room.ensures.ok w)

pub returns-in-None-clause-err : goal.returns-in-None-clause-err
returns-in-None-clause-err g c w = spare_stops c.args.self.now c.open_mirror.new.self c.make_room.new.self w c.make_room.result c.in-None.ensures.first (c.make_room.ensures.err w)
