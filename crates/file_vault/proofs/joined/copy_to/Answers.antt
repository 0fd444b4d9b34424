use Rattle.std.proofs.Common.{rules, ◌≡◌, ◌+◌, arith, length, take, sym, subst, ◌<◌}
use Rattle.std.proofs.lemmas.Grind.{common_steps}
use Rattle.file_vault.proofs.Puts.{both_elapse}
use Rattle.file_vault.proofs.Copied.{copied_more, copied_from, copied_lead, copied_up, copied_next}
use Rattle.file_vault.proofs.joined.copy_to.Goals as goal

pub returns-in_err-copy_piece-clause-time : goal.returns-in_err-copy_piece-clause-time
returns-in_err-copy_piece-clause-time g c = λ known stop.
    let so_far = c.loop-at.invariant.time known stop in
    both_elapse _ _ _ _ _ _ _ _ _ _ _ so_far (c.copy_piece.ensures.time (c.loop-at.invariant.stays known) stop) (λ h d. d)
    (copied_next c.args.lead (g.F.Files.seen c.args.files.now) (g.F.Files.seen c.loop-at.files) (g.F.Files.may_leave c.args.files.now stop) (g.F.Files.may_leave c.loop-at.files stop)
    (copied_lead c.args.lead _ _ _ (c.loop-at.invariant.seen known)) so_far.ends)

pub loop-at-preserved : goal.loop-at-preserved
loop-at-preserved g c = record {
  past = let past = c.loop-at.invariant.past in omega (arith, past);
  ours = grind (arith, common_steps);
  theirs = grind (arith, common_steps);
  stays = λ known. c.copy_piece.ensures.stays (c.loop-at.invariant.stays known);
  seen = λ known.
      let now = c.loop-at.invariant.stays known in
      let before = c.loop-at.invariant.seen known in
      copied_more c.args.lead (g.F.Files.seen c.args.files.now) (g.F.Files.seen c.args.files.now) (g.F.Files.seen c.loop-at.files) (g.F.Files.seen c.copy_piece.new.files) before
      (copied_from c.args.lead (g.F.Files.seen c.args.files.now) (g.F.Files.seen c.loop-at.files) (g.F.Files.seen c.loop-at.files) (g.F.Files.seen c.copy_piece.new.files) (copied_lead c.args.lead _ _ _ before) (c.copy_piece.ensures.seen now));
  done = λ known.
      let now = c.loop-at.invariant.stays known in
      let long : length (take c.min-count.result c.loop-at.ours) ≡ c.min-count.result = search rules in
      copied_up c.args.lead (g.F.Files.seen c.args.files.now) (g.F.Files.seen c.loop-at.files) (g.F.Files.seen c.copy_piece.new.files) c.loop-at.at c.min-count.result (c.loop-at.invariant.seen known) (c.copy_piece.ensures.seen now)
      (c.loop-at.invariant.done known) (λ k low high. c.in_ok-copy_piece.ensures.done now k low (subst (λ n. k < c.loop-at.at + n) (sym long) high));
  time = λ known stop.
      let so_far = c.loop-at.invariant.time known stop in
      both_elapse _ _ _ _ _ _ _ _ _ _ _ so_far (c.copy_piece.ensures.time (c.loop-at.invariant.stays known) stop) (λ h d. d)
      (copied_next c.args.lead (g.F.Files.seen c.args.files.now) (g.F.Files.seen c.loop-at.files) (g.F.Files.may_leave c.args.files.now stop) (g.F.Files.may_leave c.loop-at.files stop)
      (copied_lead c.args.lead _ _ _ (c.loop-at.invariant.seen known)) so_far.ends);
  faults = λ known. let was = c.loop-at.invariant.faults known in let more = c.copy_piece.ensures.later (c.loop-at.invariant.stays known) in omega (arith, was, more);
}
