use Rattle.tiered_array.proofs.Rooms.{looks_again, looks_none, stops_looking}
use Rattle.tiered_array.specs.Placing.{content_of}
use Rattle.tiered_array.proofs.tiers.Tiers.write_again.Goals as goal

pub returns-in-Some-clause-ok : goal.returns-in-Some-clause-ok
returns-in-Some-clause-ok g c w =
    let a = c.args in
    looks_again a.self.now c.any_mirror.new.self c.put.new.self w a.block c.in-Some.slot (content_of a.given) c.put.result c.in-Some.ensures.first (c.put.ensures.ok w)

pub returns-in-Some-clause-err : goal.returns-in-Some-clause-err
returns-in-Some-clause-err g c w =
    let a = c.args in
    stops_looking a.self.now c.any_mirror.new.self c.put.new.self w a.block c.in-Some.slot (content_of a.given) c.put.result c.in-Some.ensures.first (c.put.ensures.err w)

pub returns-in-None-clause-ok : goal.returns-in-None-clause-ok
returns-in-None-clause-ok g c w =
    let a = c.args in looks_none a.self.now c.any_mirror.new.self w a.block (content_of a.given) c.in-None.ensures.first
