use Rattle.std.proofs.Common.{take}
use Rattle.raid_c.specs.Lists.{AreRecords}
use Rattle.raid_c.proofs.join.bytes_of.Given as goal

abbrev pub invariant-loop-record : goal.invariant-loop-record
invariant-loop-record l = AreRecords l.bytes.items (take l.record-index l.records)
