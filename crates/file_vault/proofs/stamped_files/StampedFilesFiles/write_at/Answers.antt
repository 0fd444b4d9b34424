use Rattle.std.proofs.lemmas.Result.{on_ok_weaker}
use Rattle.vault.specs.declared.store.Stop.TheVariants.{Killed}
use Rattle.file_vault.proofs.Lifts.{at_once}
use Rattle.file_vault.proofs.Unstamped.{seen_wrote, seen_mixed, unstamped_killed, unstamped_elapses, unstamped_mixed_at, agree_mixed, mixed_still}
use Rattle.file_vault.proofs.stamped_files.StampedFilesFiles.write_at.Goals as goal

pub returns-then-is_apart-clause-stays : goal.returns-then-is_apart-clause-stays
returns-then-is_apart-clause-stays g c = λ known. (
  c.write_at.ensures.stays known.0,
  agree_mixed g.F.Files.may_leave c.args.self.now.files c.write_at.new.self c.args.self.now.generation c.args.self.now.current c.args.self.now.raised c.args.file c.args.at c.args.bytes.now (c.is_apart.ensures c.if-is_apart.true) known.1
      (λ stop. (c.write_at.ensures.time known.0 stop).ends),
)

pub returns-then-is_apart-clause-wrote : goal.returns-then-is_apart-clause-wrote
returns-then-is_apart-clause-wrote g c = λ known.
    on_ok_weaker c.write_at.result (λ wrote. seen_wrote c.args.file c.args.at c.args.bytes.now (c.is_apart.ensures c.if-is_apart.true) (g.F.Files.seen c.args.self.now.files) (g.F.Files.seen c.write_at.new.self) wrote)
    (c.write_at.ensures.wrote known.0)

pub returns-then-is_apart-clause-mixed : goal.returns-then-is_apart-clause-mixed
returns-then-is_apart-clause-mixed g c = λ known.
    seen_mixed c.args.file c.args.at c.args.bytes.now (c.is_apart.ensures c.if-is_apart.true) (g.F.Files.seen c.args.self.now.files) (g.F.Files.seen c.write_at.new.self) (c.write_at.ensures.mixed known.0)

pub returns-then-is_apart-clause-killed : goal.returns-then-is_apart-clause-killed
returns-then-is_apart-clause-killed g c = λ known.
    on_ok_weaker c.write_at.result (λ within. unstamped_killed c.args.file c.args.at c.args.bytes.now (g.F.Files.may_leave c.args.self.now.files Killed) (g.F.Files.may_leave c.write_at.new.self Killed) (c.is_apart.ensures c.if-is_apart.true) within)
    (c.write_at.ensures.killed known.0)

pub returns-then-is_apart-clause-time : goal.returns-then-is_apart-clause-time
returns-then-is_apart-clause-time g c = λ known stop.
    unstamped_elapses _ _ _ _ _ _ _ (c.write_at.ensures.time known.0 stop) (unstamped_mixed_at c.args.file c.args.at c.args.bytes.now (g.F.Files.may_leave c.args.self.now.files stop) (c.is_apart.ensures c.if-is_apart.true))

pub returns-clause-time : goal.returns-clause-time
returns-clause-time g c = λ known stop. at_once _ _ _ _ (λ h now. (h, now, mixed_still c.args.file c.args.at c.args.bytes.now h))
