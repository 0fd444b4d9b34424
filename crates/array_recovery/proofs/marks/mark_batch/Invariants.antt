use Rattle.std.proofs.Common.{take}
use Rattle.extent_groups.specs.Cells.{Cells}
use Rattle.extent_groups.specs.Planned.{after}
use Rattle.array_recovery.specs.Found.{AreMarksIf}
use Rattle.array_recovery.proofs.marks.mark_batch.Given as goal

-- the marks after the first writes
abbrev pub invariant-loop-index : goal.invariant-loop-index
invariant-loop-index l = (c : Cells) → AreMarksIf l.fn.is_known l.fn.marks c → AreMarksIf l.is_known l.marks (after c (take l.index l.batch))
