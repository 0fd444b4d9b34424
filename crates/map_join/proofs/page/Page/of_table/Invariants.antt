use Rattle.map_join.proofs.Lanes.{AreCopied}
use Rattle.map_join.proofs.page.Page.of_table.Given as goal

abbrev pub invariant-loop-lane : goal.invariant-loop-lane
invariant-loop-lane l = AreCopied l.lane l.table l.keys
