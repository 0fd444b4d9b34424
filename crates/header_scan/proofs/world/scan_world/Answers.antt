use Rattle.header_scan.proofs.Worlds.{world_map, world_reported}
use Rattle.header_scan.proofs.world.scan_world.Goals as goal

pub returns-clause-ok : goal.returns-clause-ok
returns-clause-ok g c =
    world_map c.args.world.now c.scan-reported.new.units c.scan-reported.result c.whole.ensures c.scan-reported.ensures.leaves c.scan-reported.ensures.map c.scan-reported.ensures.fine c.scan-reported.ensures.once

pub returns-clause-fault : goal.returns-clause-fault
returns-clause-fault g c =
    world_reported c.args.world.now c.scan-reported.new.units c.scan-reported.result c.whole.ensures c.whole-2.ensures c.scan-reported.ensures.leaves c.scan-reported.ensures.fault
