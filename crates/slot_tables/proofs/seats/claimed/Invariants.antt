use Rattle.std.proofs.Common.{take}
use Rattle.slot_tables.proofs.Seated.{AreMarked}
use Rattle.slot_tables.proofs.seats.claimed.Given as goal

abbrev pub invariant-loop-index : goal.invariant-loop-index
invariant-loop-index g l = AreMarked g.C.Hold.names (take l.index l.claims) l.slots l.marks.items
