use Rattle.map_join.proofs.Lanes.{AreJoined}
use Rattle.map_join.proofs.page.join_lanes.Given as goal

abbrev pub invariant-loop-lane : goal.invariant-loop-lane
invariant-loop-lane l = AreJoined l.lane l.initial.ours l.theirs l.ours
