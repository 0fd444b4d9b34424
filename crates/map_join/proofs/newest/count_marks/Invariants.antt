use Rattle.std.proofs.Common.{◌≡◌, ℕ, ◌≤◌, ◌+◌, ◌*◌, List, length}
use Rattle.map_join.specs.Lists.{ListsBelow}
use Rattle.map_join.specs.Marks.{IsMarkedIn}
use Rattle.map_join.proofs.newest.count_marks.Given as goal

abbrev pub invariant-loop-index : goal.invariant-loop-index
invariant-loop-index l =
    (found : List ℕ) × ListsBelow (IsMarkedIn l.marks l.group l.slots) (128 * l.group + l.index) found × (length found ≡ l.count) × (l.count ≤ l.index)
