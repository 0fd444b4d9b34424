use Rattle.file_vault.proofs.Puts.{both_elapse}
use Rattle.file_vault.proofs.joined.end_of.Goals as goal

pub returns-in-Ok-length-clause-time : goal.returns-in-Ok-length-clause-time
returns-in-Ok-length-clause-time g c = λ known stop.
    let first = c.length.ensures.time known stop in
    both_elapse _ _ _ _ _ _ _ _ _ _ _ first (c.length-2.ensures.time (c.length.ensures.stays known) stop) (λ h d. d) (λ h there. first.ends h there)

pub returns-in-Err-clause-time : goal.returns-in-Err-clause-time
returns-in-Err-clause-time g c = λ known stop.
    let first = c.length.ensures.time known stop in
    both_elapse _ _ _ _ _ _ _ _ _ _ _ first (c.length-2.ensures.time (c.length.ensures.stays known) stop) (λ h d. d) (λ h there. first.ends h there)
