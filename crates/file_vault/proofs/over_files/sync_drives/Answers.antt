use Rattle.std.proofs.Common.{rules, ◌∙◌, ap, arith}
use Rattle.vault.proofs.Carried.{cause_later, cause_passed}
use Rattle.file_vault.specs.Folders.{Folder}
use Rattle.file_vault.proofs.Puts.{both_elapse}
use Rattle.file_vault.proofs.Syncs.{synced_more}
use Rattle.file_vault.proofs.over_files.sync_drives.Goals as goal

pub returns-in_err-sync_drive-clause-time : goal.returns-in_err-sync_drive-clause-time
returns-in_err-sync_drive-clause-time g c = λ known stop.
    let so_far = c.loop-drive.invariant.time known stop in
    both_elapse _ _ _ _ _ _ _ _ _ _ _ so_far (c.sync_drive.ensures.time (c.loop-drive.invariant.stays known) stop) (λ h d. d) (λ h there. so_far.ends h there)

pub returns-in_err-sync_drive-clause-cause : goal.returns-in_err-sync_drive-clause-cause
returns-in_err-sync_drive-clause-cause g c = λ known.
    cause_passed _ _ _ c.sync_drive.result c.from_residual.result c.in_err-sync_drive.field-0.0 c.in_err-sync_drive.was (search rules)
    (cause_later _ _ _ _ c.sync_drive.result (c.loop-drive.invariant.faults known) (c.sync_drive.ensures.cause (c.loop-drive.invariant.stays known)))

pub loop-drive-preserved : goal.loop-drive-preserved
loop-drive-preserved g c = record {
  stays = λ known. c.sync_drive.ensures.stays (c.loop-drive.invariant.stays known);
  seen = λ known. c.sync_drive.ensures.seen (c.loop-drive.invariant.stays known) ∙ c.loop-drive.invariant.seen known;
  durable = λ known.
      let now = c.loop-drive.invariant.stays known in
      synced_more c.args.lost.now c.args.layout.now.counts (g.F.Files.seen c.args.files.now) (g.F.Files.may_leave c.loop-drive.files) (g.F.Files.may_leave c.sync_drive.new.files) c.loop-drive.drive
      (c.loop-drive.invariant.durable known) (λ stop. (c.sync_drive.ensures.time now stop).ends)
      (λ stop live some h there. c.in_ok-sync_drive.ensures.durable now stop live some h there ∙ ap (λ (f : Folder). f c.loop-drive.drive) (c.loop-drive.invariant.seen known));
  time = λ known stop.
      let so_far = c.loop-drive.invariant.time known stop in
      both_elapse _ _ _ _ _ _ _ _ _ _ _ so_far (c.sync_drive.ensures.time (c.loop-drive.invariant.stays known) stop) (λ h d. d) (λ h there. so_far.ends h there);
  faults = λ known. let was = c.loop-drive.invariant.faults known in let more = (c.sync_drive.ensures.cause (c.loop-drive.invariant.stays known)).later in omega (arith, was, more);
}
