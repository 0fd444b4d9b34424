use Rattle.std.proofs.Common.{◌+◌, ◌*◌}
use Rattle.step_core.specs.Reported.{flat_answer}
use Rattle.group_changes.proofs.Applying.{claimed_more, claimed_none}
use Rattle.group_changes.proofs.apply.claim_first.Goals as goal

pub loop-index-init : goal.loop-index-init
loop-index-init c = λ F was. (F, claimed_none F, was)

pub loop-index-preserved : goal.loop-index-preserved
loop-index-preserved c = λ F was.
    let by = c.loop-index.invariant F was in
    let step = c.claim-answer.ensures.flat by.0 by.2 in
    (step.0, claimed_more F by.0 step.0 0 (128 * c.args.group + c.loop-index.index) (flat_answer c.claim-answer.result) by.1 step.1, step.2)
