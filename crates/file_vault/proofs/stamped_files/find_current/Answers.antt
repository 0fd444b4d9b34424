use Rattle.std.proofs.Common.{◌∙◌, arith}
use Rattle.std.proofs.lemmas.List.{length-set}
use Rattle.file_vault.proofs.Puts.{both_elapse}
use Rattle.file_vault.proofs.Agreed.{kept_more}
use Rattle.file_vault.proofs.stamped_files.find_current.Goals as goal

pub loop-drive-preserved : goal.loop-drive-preserved
loop-drive-preserved g c = record {
  stays = λ known. c.is_kept.ensures.stays (c.loop-drive.invariant.stays known);
  seen = λ known. c.is_kept.ensures.seen (c.loop-drive.invariant.stays known) ∙ c.loop-drive.invariant.seen known;
  kept = λ known.
      let mid = c.loop-drive.invariant.stays known in
      kept_more g.F.Files.may_leave c.loop-drive.files c.is_kept.new.files c.args.generation c.loop-drive.drive c.loop-drive.current c.is_kept.result (omega (arith, c.loop-drive-test.true, c.loop-drive.invariant.long))
      (c.loop-drive.invariant.kept known) (λ stop. (c.is_kept.ensures.time mid stop).ends) (c.is_kept.ensures.kept mid);
  long = length-set c.loop-drive.current c.loop-drive.drive c.is_kept.result ∙ c.loop-drive.invariant.long;
  time = λ known stop.
      let so_far = c.loop-drive.invariant.time known stop in
      both_elapse _ _ _ _ _ _ _ _ _ _ _ so_far (c.is_kept.ensures.time (c.loop-drive.invariant.stays known) stop) (λ h d. d) (λ h there. so_far.ends h there);
}
