use Rattle.std.proofs.Common.{◌*◌, List, take}
use Rattle.map_join.specs.declared.records.Record.{Record}
use Rattle.map_join.specs.Maps.{at, IsMapOf}
use Rattle.raid_c.specs.Lists.{AreRecords}
use Rattle.raid_c.proofs.join.map_of.Given as goal

abbrev pub invariant-loop-index : goal.invariant-loop-index
invariant-loop-index l = (records : List Record) × AreRecords (take (12 * l.index) l.records) records × IsMapOf records (at l.map)
