use Rattle.std.proofs.Common.{arith}
use Rattle.std.proofs.lemmas.Result.{on_ok_weaker}
use Rattle.file_vault.proofs.Lifts.{at_once}
use Rattle.file_vault.proofs.Unstamped.{seen_cut, seen_short, unstamped_elapses, unstamped_cut_at, agree_cut, short_still}
use Rattle.file_vault.proofs.stamped_files.StampedFilesFiles.cut.Goals as goal

pub returns-then-file-gt-TABLE-clause-stays : goal.returns-then-file-gt-TABLE-clause-stays
returns-then-file-gt-TABLE-clause-stays g c = λ known. (
  c.cut.ensures.stays known.0,
  agree_cut g.F.Files.may_leave c.args.self.now.files c.cut.new.self c.args.self.now.generation c.args.self.now.current c.args.self.now.raised c.args.file c.args.at (omega (arith, c.if-file-gt-TABLE.true)) known.1
      (λ stop. (c.cut.ensures.time known.0 stop).ends),
)

pub returns-then-file-gt-TABLE-clause-cut : goal.returns-then-file-gt-TABLE-clause-cut
returns-then-file-gt-TABLE-clause-cut g c = λ known.
    on_ok_weaker c.cut.result (λ cut. seen_cut c.args.file c.args.at (g.F.Files.seen c.args.self.now.files) (g.F.Files.seen c.cut.new.self) (omega (arith, c.if-file-gt-TABLE.true)) cut) (c.cut.ensures.cut known.0)

pub returns-then-file-gt-TABLE-clause-short : goal.returns-then-file-gt-TABLE-clause-short
returns-then-file-gt-TABLE-clause-short g c = λ known.
    seen_short c.args.file c.args.at (g.F.Files.seen c.args.self.now.files) (g.F.Files.seen c.cut.new.self) (omega (arith, c.if-file-gt-TABLE.true)) (c.cut.ensures.short known.0)

pub returns-then-file-gt-TABLE-clause-time : goal.returns-then-file-gt-TABLE-clause-time
returns-then-file-gt-TABLE-clause-time g c = λ known stop.
    unstamped_elapses _ _ _ _ _ _ _ (c.cut.ensures.time known.0 stop) (unstamped_cut_at c.args.file c.args.at (g.F.Files.may_leave c.args.self.now.files stop) (omega (arith, c.if-file-gt-TABLE.true)))

pub returns-clause-time : goal.returns-clause-time
returns-clause-time g c = λ known stop. at_once _ _ _ _ (λ h now. (h, now, short_still c.args.file c.args.at h))
