use Rattle.std.proofs.Common.{◌≡◌, Err, rules, sym, subst}
use Rattle.step_core.specs.Placing.{Again}
use Rattle.flat_machine.specs.declared.refusal.Refusal.TheVariants.{Outrun}
use Rattle.array_book.specs.declared.fault.WorkFault.TheVariants.{Core}
use Rattle.array_book.specs.Outcomes.{HasFailed, HasMoved, WasChosen}
use Rattle.array_book.proofs.Noting.{put_err}
use Rattle.array_book.proofs.worker.Worker.migrate.Goals as goal

pub returns-in-Err-clause-called : goal.returns-in-Err-clause-called
returns-in-Err-clause-called g c =
    let plan = c.in-Some.plan in
    let slot = c.in-Some-claim_planned.claim.slot in
    let chosen : WasChosen g.N.Sizes.blocks g.N.Sizes.payload c.args.self.now.book.now.mirrors.items c.args.low plan slot = record { planned = search rules; tried = search rules } in
    let failed : HasFailed c.args.self.now.hand Again slot plan.block c.in-Err.fault c.or_released.new.self.hand =
    put_err (λ d. d.emitted) (λ e. e.refusal) c.in_ok-ended.ended _ _ _ _ Again slot plan.block (search rules) c.or_released.ensures.rest.0 c.in_ok-ended.ensures.called in
    (plan, slot, chosen, search rules)

pub returns-in-Err-Core-Outrun-clause-called : goal.returns-in-Err-Core-Outrun-clause-called
returns-in-Err-Core-Outrun-clause-called g c =
    let plan = c.in-Some.plan in
    let slot = c.in-Some-claim_planned.claim.slot in
    let chosen : WasChosen g.N.Sizes.blocks g.N.Sizes.payload c.args.self.now.book.now.mirrors.items c.args.low plan slot = record { planned = search rules; tried = search rules } in
    let failed : HasFailed c.args.self.now.hand Again slot plan.block (Core (Outrun c.in-Err-Core-Outrun.newer)) c.or_released.new.self.hand =
    put_err (λ d. d.emitted) (λ e. e.refusal) c.in_ok-ended.ended _ _ _ _ Again slot plan.block (search rules) c.or_released.ensures.rest.0 c.in_ok-ended.ensures.called in
    (plan, slot, chosen, failed)

pub returns-in_err-ended-clause-called : goal.returns-in_err-ended-clause-called
returns-in_err-ended-clause-called g c =
    let plan = c.in-Some.plan in
    let slot = c.in-Some-claim_planned.claim.slot in
    let low = c.args.low in
    let mirrors = c.args.self.now.book.now.mirrors.items in
    let chosen : WasChosen g.N.Sizes.blocks g.N.Sizes.payload mirrors low plan slot = record { planned = search rules; tried = search rules } in
    let reported = c.in_err-ended.field-0.0 in
    let failed : HasFailed c.args.self.now.hand Again slot plan.block reported c.put_claimed.new.self.hand = search rules in
    let is : c.from_residual.result ≡ Err reported = search rules in
    subst (λ r. HasMoved g.N.Sizes.blocks g.N.Sizes.payload mirrors low c.args.self.now.hand r c.put_claimed.new.self.hand) (sym is) (plan, slot, chosen, failed)
