use Rattle.std.proofs.Common.{get_or}
use Rattle.tiered_array.specs.Hints.{IsSought}
use Rattle.tiered_array.proofs.hints.first_in_row.Given as goal

abbrev pub invariant-loop-bit : goal.invariant-loop-bit
invariant-loop-bit g l = IsSought l.fn.slots l.slots (g.F.Free.free l.free)

abbrev pub decreases-loop-bit : goal.decreases-loop-bit
decreases-loop-bit g l = get_or l.slots l.row 0
