use Rattle.std.proofs.Common.{◌≡◌, length}
use Rattle.slot_tables.specs.Views.{key_at}
use Rattle.tiered_array.specs.Marking.{AreMarkedBelow}
use Rattle.tiered_array.proofs.planner.mark_stored.Given as goal

abbrev pub invariant-loop-block : goal.invariant-loop-block
invariant-loop-block g l =
    (l.ages.order ≡ l.fn.ages.order) × (length l.ages.marks ≡ length l.fn.ages.marks)
    × AreMarkedBelow l.ages.marks l.array.parts.groups (key_at l.array) l.block
