use Rattle.file_vault.proofs.Puts.{both_elapse}
use Rattle.file_vault.proofs.twin.read_count.Goals as goal

pub returns-in_err-read_part-clause-time : goal.returns-in_err-read_part-clause-time
returns-in_err-read_part-clause-time g c = λ known stop.
    let first = c.read_which.ensures.time known stop in
    both_elapse _ _ _ _ _ _ _ _ _ _ _ first (c.read_part.ensures.time (c.read_which.ensures.stays known) stop) (λ h d. d) (λ h there. first.ends h there)

pub returns-clause-time : goal.returns-clause-time
returns-clause-time g c = λ known stop.
    let first = c.read_which.ensures.time known stop in
    both_elapse _ _ _ _ _ _ _ _ _ _ _ first (c.read_part.ensures.time (c.read_which.ensures.stays known) stop) (λ h d. d) (λ h there. first.ends h there)
