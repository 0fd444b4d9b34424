use Rattle.std.proofs.lemmas.Result.{IfOk-weaker}
use Rattle.file_vault.specs.Generations.{unstamped}
use Rattle.file_vault.proofs.Unstamped.{unstamped_elapses, agree_read, zero_seen}
use Rattle.file_vault.proofs.stamped_files.StampedFilesFiles.length.Goals as goal

pub returns-clause-stays : goal.returns-clause-stays
returns-clause-stays g c = λ known. (
  c.length.ensures.stays known.0,
  agree_read g.F.Files.may_leave c.args.self.now.files c.length.new.self c.args.self.now.generation c.args.self.now.current c.args.self.now.raised known.1 (λ stop. (c.length.ensures.time known.0 stop).ends),
)

pub returns-clause-zeros : goal.returns-clause-zeros
returns-clause-zeros g c = λ known.
    IfOk-weaker c.length.result _ _ (λ end zeros k past. zero_seen (g.F.Files.seen c.args.self.now.files) c.args.file k (zeros k past)) (c.length.ensures.zeros known.0)

pub returns-clause-time : goal.returns-clause-time
returns-clause-time g c = λ known stop. unstamped_elapses _ _ _ _ _ _ _ (c.length.ensures.time known.0 stop) (λ h now. (h, now, λ i. unstamped h))
