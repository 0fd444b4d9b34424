use Rattle.file_vault.proofs.Puts.{both_elapse}
use Rattle.file_vault.proofs.stamped_files.find_generation.Goals as goal

pub returns-in-Ok-sync-clause-time : goal.returns-in-Ok-sync-clause-time
returns-in-Ok-sync-clause-time g c = λ known stop.
    let first = c.read_generation.ensures.time known stop in
    both_elapse _ _ _ _ _ _ _ _ _ _ _ first (c.sync.ensures.time (c.read_generation.ensures.stays known) stop) (λ h d. d) (λ h there. first.ends h there)

pub returns-in-Err-clause-time : goal.returns-in-Err-clause-time
returns-in-Err-clause-time g c = λ known stop.
    let first = c.read_generation.ensures.time known stop in
    both_elapse _ _ _ _ _ _ _ _ _ _ _ first (c.sync.ensures.time (c.read_generation.ensures.stays known) stop) (λ h d. d) (λ h there. first.ends h there)
