use Rattle.std.proofs.Common.{sym, subst}
use Rattle.std.proofs.lemmas.Result.{on_ok_weaker}
use Rattle.file_vault.specs.Generations.{unstamped, HasNoGeneration}
use Rattle.file_vault.proofs.Unstamped.{unstamped_elapses, agree_read, seen_reads}
use Rattle.file_vault.proofs.stamped_files.StampedFilesFiles.read_at.Goals as goal

pub returns-then-is_apart-clause-stays : goal.returns-then-is_apart-clause-stays
returns-then-is_apart-clause-stays g c = λ known. (
  c.read_at.ensures.stays known.0,
  agree_read g.F.Files.may_leave c.args.self.now.files c.read_at.new.self c.args.self.now.generation c.args.self.now.current c.args.self.now.raised known.1 (λ stop. (c.read_at.ensures.time known.0 stop).ends),
)

pub returns-then-is_apart-clause-bytes : goal.returns-then-is_apart-clause-bytes
returns-then-is_apart-clause-bytes g c = λ known.
    on_ok_weaker c.read_at.result
    (λ reads. seen_reads c.args.file c.args.at c.read_at.new.out (g.F.Files.seen c.args.self.now.files) (subst (λ n. HasNoGeneration c.args.file c.args.at n) (sym c.read_at.auto.out) (c.is_apart.ensures c.if-is_apart.true)) reads)
    (c.read_at.ensures.bytes known.0)

pub returns-then-is_apart-clause-time : goal.returns-then-is_apart-clause-time
returns-then-is_apart-clause-time g c = λ known stop. unstamped_elapses _ _ _ _ _ _ _ (c.read_at.ensures.time known.0 stop) (λ h now. (h, now, λ i. unstamped h))
