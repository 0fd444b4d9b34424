use Rattle.std.proofs.Common.{sym, subst}
use Rattle.std.proofs.lemmas.Result.{on_ok_weaker}
use Rattle.vault.specs.declared.store.Stop.{Stop}
use Rattle.file_vault.specs.Folders.{HasFile}
use Rattle.file_vault.specs.Generations.{unstamped, unstamped_of}
use Rattle.file_vault.proofs.Unstamped.{unstamped_elapses, unstamped_file, agree_read}
use Rattle.file_vault.proofs.stamped_files.StampedFilesFiles.sync.Goals as goal

pub returns-then-file-gt-TABLE-clause-stays : goal.returns-then-file-gt-TABLE-clause-stays
returns-then-file-gt-TABLE-clause-stays g c = λ known. (
  c.sync.ensures.stays known.0,
  agree_read g.F.Files.may_leave c.args.self.now.files c.sync.new.self c.args.self.now.generation c.args.self.now.current c.args.self.now.raised known.1 (λ stop. (c.sync.ensures.time known.0 stop).ends),
)

pub returns-then-file-gt-TABLE-clause-durable : goal.returns-then-file-gt-TABLE-clause-durable
returns-then-file-gt-TABLE-clause-durable g c = λ known.
    on_ok_weaker c.sync.result (λ durable (stop : Stop). unstamped_file c.args.file (g.F.Files.seen c.args.self.now.files) (g.F.Files.may_leave c.sync.new.self stop) (durable stop)) (c.sync.ensures.durable known.0)

pub returns-then-file-gt-TABLE-clause-time : goal.returns-then-file-gt-TABLE-clause-time
returns-then-file-gt-TABLE-clause-time g c = λ known stop. unstamped_elapses _ _ _ _ _ _ _ (c.sync.ensures.time known.0 stop) (λ h now. (h, now, λ i. unstamped h))

pub returns-then-file-eq-TABLE-clause-durable : goal.returns-then-file-eq-TABLE-clause-durable
returns-then-file-eq-TABLE-clause-durable g c = λ known.
    on_ok_weaker c.sync_table.result
    (λ durable (stop : Stop). subst (λ n. HasFile n (unstamped (g.F.Files.seen c.args.self.now.files)) (λ h. unstamped_of (g.F.Files.may_leave c.sync_table.new.self.files stop) h)) (sym c.if-file-eq-TABLE.true) (durable stop))
    (c.sync_table.ensures.durable known.0)

pub returns-then-file-eq-TABLE-clause-time : goal.returns-then-file-eq-TABLE-clause-time
returns-then-file-eq-TABLE-clause-time g c = λ known stop. c.sync_table.ensures.time known.0 stop

pub returns-clause-time : goal.returns-clause-time
returns-clause-time g c = λ known stop. c.sync_drive.ensures.time known.0 stop
