use Rattle.step_core.specs.Placing.{put_for}
use Rattle.array_book.proofs.Noting.{given_up}
use Rattle.array_book.proofs.held.end_in.Goals as goal

pub returns-in-Err-clause-called : goal.returns-in-Err-clause-called
returns-in-Err-clause-called g c =
    given_up c.args.me.now c.commit_what_in.new.me c.give_up_in.new.me (put_for c.args.what) c.args.ticket c.in-Err.ticket c.args.block c.in-Err.refusal c.give_up_in.result.refusal
    c.in-Err.ensures.called c.give_up_in.ensures.refusal c.in-Err.ensures.err.0 c.give_up_in.ensures.called
