use Rattle.std.proofs.Common.{false, replicate}
use Rattle.file_vault.proofs.Puts.{both_elapse}
use Rattle.file_vault.proofs.Agreed.{agree_first, none_marked}
use Rattle.file_vault.proofs.stamped_files.StampedFiles.open.Goals as goal

pub returns-clause-known : goal.returns-clause-known
returns-clause-known g c = λ known.
    let mid = c.find_generation.ensures.stays known in (
      c.find_current-current.ensures.stays mid,
      agree_first g.F.Files.may_leave c.find_current-current.new.files c.in-Some.generation c.find_current-current.result (replicate 16 false) (c.find_current-current.ensures.kept mid)
          (λ stop h now. c.in-Some.ensures.durable known stop h ((c.find_current-current.ensures.time mid stop).ends h now)) (none_marked 16),
    )

pub returns-clause-time : goal.returns-clause-time
returns-clause-time g c = λ known stop.
    let first = c.find_generation.ensures.time known stop in
    both_elapse _ _ _ _ _ _ _ _ _ _ _ first (c.find_current-current.ensures.time (c.find_generation.ensures.stays known) stop) (λ h d. d) (λ h there. first.ends h there)
