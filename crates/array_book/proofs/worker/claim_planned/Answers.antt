use Rattle.std.proofs.Common.{ℕ, ◌<◌, Option, Some, None, sym, subst, rules}
use Rattle.std.specs.Prelude.{IfNone}
use Rattle.array_book.specs.Outcomes.{IsTried, HadNoRoom}
use Rattle.array_book.proofs.Planning.{next_tried, next_none}
use Rattle.array_book.proofs.worker.claim_planned.Goals as goal

-- what holds, holds also where there is none
if_none : {X : Type 0} (r : Option X) (P : Type 0) → P → IfNone r P
if_none None P holds = holds
if_none (Some x) P holds = tt

pub returns-in-Ok-clause-some : goal.returns-in-Ok-clause-some
returns-in-Ok-clause-some g c = subst (λ (s : ℕ). IsTried g.N.Sizes.blocks g.N.Sizes.payload c.args.plan.now s) (sym c.in-Ok.ensures.ok.0) c.loop-claim.invariant.1

pub returns-in_err-slot-in-Err-clause-none : goal.returns-in_err-slot-in-Err-clause-none
returns-in_err-slot-in-Err-clause-none g c =
    if_none _ (HadNoRoom g.N.Sizes.blocks g.N.Sizes.payload c.args.plan.now)
    (next_none _ _ c.args.plan.now c.loop-claim.slot c.slot_after.result c.loop-claim.invariant.1 c.slot_after.ensures.seen c.in_err-slot-in-Err.was)

pub loop-claim-preserved : goal.loop-claim-preserved
loop-claim-preserved g c =
    let below : c.in_ok-slot-in-Err.slot < 65536 = search rules in
    (below, next_tried _ _ c.args.plan.now c.loop-claim.slot c.slot_after.result c.in_ok-slot-in-Err.slot c.slot_after.ensures.seen c.in_ok-slot-in-Err.was)
