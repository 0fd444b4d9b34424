use Rattle.group_changes.specs.Applied.{IsClaimedOf}
use Rattle.group_changes.proofs.Applying.{Does}
use Rattle.group_changes.proofs.apply.claim_first.Given as goal

abbrev pub invariant-loop-index : goal.invariant-loop-index
invariant-loop-index l = Does l.fn.world l.world IsClaimedOf
