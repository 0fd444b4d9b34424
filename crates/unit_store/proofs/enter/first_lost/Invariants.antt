use Rattle.extent_groups.specs.Missing.{missing_of}
use Rattle.unit_store.proofs.Entering.{ArePresentBelow}
use Rattle.unit_store.proofs.enter.first_lost.Given as goal

abbrev pub invariant-loop-member : goal.invariant-loop-member
invariant-loop-member g l = ArePresentBelow (missing_of g.D.Drive.lost l.drives) l.members l.member-index
