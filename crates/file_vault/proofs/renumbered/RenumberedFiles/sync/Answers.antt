use Rattle.std.proofs.Common.{ap}
use Rattle.std.proofs.lemmas.Result.{on_ok_weaker}
use Rattle.vault.specs.declared.store.Stop.{Stop}
use Rattle.file_vault.specs.Renumbering.{renumbered}
use Rattle.file_vault.proofs.Exchanges.{exchanged_elapses, exchanged_file}
use Rattle.file_vault.proofs.renumbered.RenumberedFiles.sync.Goals as goal

pub returns-clause-seen : goal.returns-clause-seen
returns-clause-seen g c = λ known. ap renumbered (c.sync.ensures.seen known)

pub returns-clause-durable : goal.returns-clause-durable
returns-clause-durable g c = λ known.
    on_ok_weaker c.sync.result (λ durable (stop : Stop). exchanged_file c.args.file c.exchanged.result (g.F.Files.seen c.args.self.now.files) (g.F.Files.may_leave c.sync.new.self stop) c.exchanged.ensures (durable stop))
    (c.sync.ensures.durable known)

pub returns-clause-time : goal.returns-clause-time
returns-clause-time g c = λ known stop. exchanged_elapses _ _ _ _ _ _ _ (c.sync.ensures.time known stop) (λ h now. now)
