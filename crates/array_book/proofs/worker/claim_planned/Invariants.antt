use Rattle.std.proofs.Common.{◌<◌, ◌-◌}
use Rattle.array_book.specs.Planned.{turn_of}
use Rattle.array_book.specs.Outcomes.{IsTried}
use Rattle.array_book.proofs.worker.claim_planned.Given as goal

-- the slot is one that the plan tries
abbrev pub invariant-loop-claim : goal.invariant-loop-claim
invariant-loop-claim g l = (l.slot < 65536) × IsTried g.N.Sizes.blocks g.N.Sizes.payload l.plan l.slot

-- each next slot has a later turn
abbrev pub decreases-loop-claim : goal.decreases-loop-claim
decreases-loop-claim g l = 65664 - turn_of l.plan.group l.slot
