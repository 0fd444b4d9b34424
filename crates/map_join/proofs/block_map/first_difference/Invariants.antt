use Rattle.std.proofs.Common.{◌≡◌, ◌++◌}
use Rattle.map_join.specs.Maps.{Entries, at}
use Rattle.map_join.proofs.Differing.{AreShared}
use Rattle.map_join.proofs.block_map.first_difference.Given as goal

abbrev pub invariant-loop-number : goal.invariant-loop-number
invariant-loop-number l = (front : Entries) × (front ++ l.number-iterator ≡ l.ours.entries) × AreShared (at front) (at l.theirs.entries)
