use Rattle.std.proofs.Common.{◌∙◌, ap}
use Rattle.file_vault.specs.Folders.{Folder}
use Rattle.file_vault.proofs.Puts.{both_elapse}
use Rattle.file_vault.proofs.Agreed.{current_file}
use Rattle.file_vault.proofs.stamped_files.is_kept.Goals as goal

pub returns-in-Ok-sync-clause-kept : goal.returns-in-Ok-sync-clause-kept
returns-in-Ok-sync-clause-kept g c = λ known is stop h now.
    current_file c.args.drive c.args.generation (g.F.Files.seen c.args.files.now) h
    (c.in-Ok-sync.ensures.durable (c.is_current.ensures.stays known) stop h now ∙ ap (λ (f : Folder). f c.args.drive) (c.is_current.ensures.seen known)) (c.in-Ok.ensures.current known is)

pub returns-in-Ok-sync-clause-time : goal.returns-in-Ok-sync-clause-time
returns-in-Ok-sync-clause-time g c = λ known stop.
    let first = c.is_current.ensures.time known stop in
    both_elapse _ _ _ _ _ _ _ _ _ _ _ first (c.sync.ensures.time (c.is_current.ensures.stays known) stop) (λ h d. d) (λ h there. first.ends h there)

pub returns-in-Err-clause-time : goal.returns-in-Err-clause-time
returns-in-Err-clause-time g c = λ known stop.
    let first = c.is_current.ensures.time known stop in
    both_elapse _ _ _ _ _ _ _ _ _ _ _ first (c.sync.ensures.time (c.is_current.ensures.stays known) stop) (λ h d. d) (λ h there. first.ends h there)
