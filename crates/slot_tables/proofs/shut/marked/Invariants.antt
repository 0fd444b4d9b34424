use Rattle.std.proofs.Common.{take}
use Rattle.slot_tables.proofs.Shutting.{AreMarks}
use Rattle.slot_tables.proofs.shut.marked.Given as goal

abbrev pub invariant-loop-index : goal.invariant-loop-index
invariant-loop-index g l = AreMarks g.C.Hold.names l.fn.group l.fn.count (take l.index l.claims) l.marks
