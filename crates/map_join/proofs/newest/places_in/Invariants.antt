use Rattle.std.proofs.Common.{◌≡◌, ◌++◌}
use Rattle.map_join.specs.Maps.{Entries, at}
use Rattle.map_join.proofs.Placing.{AreMarks}
use Rattle.map_join.proofs.newest.places_in.Given as goal

abbrev pub invariant-loop-number : goal.invariant-loop-number
invariant-loop-number l = (front : Entries) × (front ++ l._number-iterator ≡ l.pages.entries) × AreMarks (at front) l.group l.marks
