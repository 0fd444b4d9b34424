use Rattle.std.proofs.Common.{take}
use Rattle.slot_tables.specs.Claims.{AreExpected}
use Rattle.slot_tables.proofs.seats.blocks_by_slot.Given as goal

abbrev pub invariant-loop-index : goal.invariant-loop-index
invariant-loop-index l = AreExpected (take l.index l.records) l.slots l.expected.items
