use Rattle.std.proofs.Common.{◌≡◌, ◌≤◌, ℕ, ap, subst}
use Rattle.std.proofs.lemmas.Result.{IfOk-weaker}
use Rattle.file_vault.specs.Renumbering.{renumbered}
use Rattle.file_vault.proofs.Exchanges.{exchanged_elapses}
use Rattle.file_vault.proofs.renumbered.RenumberedFiles.length.Goals as goal

pub returns-clause-seen : goal.returns-clause-seen
returns-clause-seen g c = λ known. ap renumbered (c.length.ensures.seen known)

pub returns-clause-zeros : goal.returns-clause-zeros
returns-clause-zeros g c = λ known.
    IfOk-weaker c.length.result _ _ (λ end zeros. subst (λ n. (k : ℕ) → end ≤ k → g.F.Files.seen c.args.self.now.files n k ≡ 0) c.exchanged.ensures zeros) (c.length.ensures.zeros known)

pub returns-clause-time : goal.returns-clause-time
returns-clause-time g c = λ known stop. exchanged_elapses _ _ _ _ _ _ _ (c.length.ensures.time known stop) (λ h now. now)
