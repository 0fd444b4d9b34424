use Rattle.std.proofs.Common.{◌*◌, List, take}
use Rattle.map_join.specs.declared.records.Record.{Record}
use Rattle.raid_c.specs.Lists.{AreRecords}
use Rattle.raid_c.specs.Newest.{IsNewest}
use Rattle.raid_c.proofs.newest.newest_of.Given as goal

abbrev pub invariant-loop-index : goal.invariant-loop-index
invariant-loop-index l = (list : List Record) × AreRecords (take (12 * l.index) l.records) list × IsNewest list l.block l.newest
