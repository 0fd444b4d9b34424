use Rattle.std.proofs.Common.{ap, subst}
use Rattle.std.proofs.lemmas.Result.{on_ok_weaker}
use Rattle.file_vault.specs.Folders.{Reads}
use Rattle.file_vault.specs.Renumbering.{renumbered}
use Rattle.file_vault.proofs.Exchanges.{exchanged_elapses}
use Rattle.file_vault.proofs.renumbered.RenumberedFiles.read_at.Goals as goal

pub returns-clause-seen : goal.returns-clause-seen
returns-clause-seen g c = λ known. ap renumbered (c.read_at.ensures.seen known)

pub returns-clause-bytes : goal.returns-clause-bytes
returns-clause-bytes g c = λ known.
    on_ok_weaker c.read_at.result (λ reads. subst (λ n. Reads (g.F.Files.seen c.args.self.now.files n) c.args.at c.read_at.new.out) c.exchanged.ensures reads) (c.read_at.ensures.bytes known)

pub returns-clause-time : goal.returns-clause-time
returns-clause-time g c = λ known stop. exchanged_elapses _ _ _ _ _ _ _ (c.read_at.ensures.time known stop) (λ h now. now)
