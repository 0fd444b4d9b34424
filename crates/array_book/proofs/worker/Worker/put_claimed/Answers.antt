use Rattle.std.proofs.Common.{rules, sym, subst}
use Rattle.history.specs.Entries.{Carried}
use Rattle.step_core.specs.Placing.{put_for}
use Rattle.array_book.specs.Acts.{Act}
use Rattle.array_book.specs.Outcomes.{HasFailed}
use Rattle.array_book.proofs.Noting.{failed_as, not_waiting}
use Rattle.array_book.proofs.worker.Worker.put_claimed.Goals as goal

pub returns-in_err-ticket-clause-called : goal.returns-in_err-ticket-clause-called
returns-in_err-ticket-clause-called g c =
    let reported = c.in_err-ticket.field-0.0 in
    failed_as _ _ c.from_residual-in_err-ticket.result reported (search rules)
    (subst (λ (h : Carried Act). HasFailed c.args.self.now.hand (put_for c.args.what) c.args.claim.slot c.args.block reported h) (sym c.or_released-2.ensures.rest.0)
    (not_waiting (λ e. e.refusal) _ _ c.args.what c.args.claim.slot c.args.block c.wait_in-waiting.result _ reported c.requires.of c.in_err-ticket.ensures.err c.wait_in-waiting.ensures.called))
