use Rattle.std.proofs.Common.{take}
use Rattle.extent_groups.specs.Cells.{Cells}
use Rattle.extent_groups.specs.Planned.{after}
use Rattle.group_form.specs.Reading.{AreKnownOf}
use Rattle.group_form.proofs.table.lay_batch.Given as goal

-- the first writes are made
abbrev pub invariant-loop-index : goal.invariant-loop-index
invariant-loop-index l = (c : Cells) → AreKnownOf l.fn.units c → AreKnownOf l.units (after c (take l.index l.batch))
