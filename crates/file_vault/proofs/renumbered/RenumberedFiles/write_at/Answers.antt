use Rattle.std.proofs.lemmas.Result.{on_ok_weaker}
use Rattle.vault.specs.declared.store.Stop.TheVariants.{Killed}
use Rattle.file_vault.specs.Renumbering.{renumbered}
use Rattle.file_vault.proofs.Exchanges.{exchanged_elapses, exchanged_wrote, exchanged_mixed, exchanged_wrote_at, exchanged_mixed_at}
use Rattle.file_vault.proofs.renumbered.RenumberedFiles.write_at.Goals as goal

pub returns-clause-wrote : goal.returns-clause-wrote
returns-clause-wrote g c = λ known.
    on_ok_weaker c.write_at.result (λ wrote. exchanged_wrote c.args.file c.exchanged.result c.args.at c.args.bytes.now c.exchanged.ensures (g.F.Files.seen c.args.self.now.files) (g.F.Files.seen c.write_at.new.self) wrote)
    (c.write_at.ensures.wrote known)

pub returns-clause-mixed : goal.returns-clause-mixed
returns-clause-mixed g c = λ known.
    exchanged_mixed c.args.file c.exchanged.result c.args.at c.args.bytes.now c.exchanged.ensures (g.F.Files.seen c.args.self.now.files) (g.F.Files.seen c.write_at.new.self) (c.write_at.ensures.mixed known)

pub returns-clause-killed : goal.returns-clause-killed
returns-clause-killed g c = λ known.
    on_ok_weaker c.write_at.result (λ within h now. exchanged_wrote_at c.args.file c.exchanged.result c.args.at c.args.bytes.now c.exchanged.ensures (g.F.Files.may_leave c.args.self.now.files Killed) h (within (renumbered h) now))
    (c.write_at.ensures.killed known)

pub returns-clause-time : goal.returns-clause-time
returns-clause-time g c = λ known stop.
    exchanged_elapses _ _ _ _ _ _ _ (c.write_at.ensures.time known stop) (λ h during. exchanged_mixed_at c.args.file c.exchanged.result c.args.at c.args.bytes.now c.exchanged.ensures (g.F.Files.may_leave c.args.self.now.files stop) h during)
