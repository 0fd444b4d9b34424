use Rattle.file_vault.proofs.Puts.{both_elapse}
use Rattle.file_vault.proofs.twin.put_durable.Goals as goal

pub returns-clause-time : goal.returns-clause-time
returns-clause-time g c = λ known stop.
    let first = c.write_at.ensures.time known stop in
    both_elapse _ _ _ _ _ _ _ _ _ _ _ first (c.sync.ensures.time (c.write_at.ensures.stays known) stop) (λ h d. d) (λ h there. first.ends h there)
