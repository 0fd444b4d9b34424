use Rattle.std.proofs.Common.{subst, List, ℕ}
use Rattle.vault.specs.Moments.{Elapses}
use Rattle.file_vault.specs.Folders.{mixed_at}
use Rattle.file_vault.proofs.twin.put_number.Goals as goal

pub returns-clause-time : goal.returns-clause-time
returns-clause-time g c = λ known stop.
    subst (λ (l : List ℕ). Elapses (g.F.Files.moment c.args.files.now) (g.F.Files.moment c.put_durable.new.files) (g.F.Files.left_since c.args.files.now stop) (g.F.Files.left_since c.put_durable.new.files stop)
    (mixed_at c.args.number c.args.at l (g.F.Files.may_leave c.args.files.now stop)) (g.F.Files.may_leave c.put_durable.new.files stop)) c.to_le_bytes.ensures (c.put_durable.ensures.time known stop)
