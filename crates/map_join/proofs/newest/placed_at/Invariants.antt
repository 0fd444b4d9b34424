use Rattle.std.proofs.Common.{◌≡◌, ◌++◌}
use Rattle.map_join.specs.Maps.{Entries, at}
use Rattle.map_join.specs.Marks.{IsPlaced}
use Rattle.map_join.proofs.newest.placed_at.Given as goal

abbrev pub invariant-loop-number : goal.invariant-loop-number
invariant-loop-number l = (front : Entries) × (front ++ l.number-iterator ≡ l.pages.entries) × (IsPlaced (at front) l.slot → ⊥)
