use Rattle.std.proofs.Common.{[]}
use Rattle.std.proofs.lemmas.Result.{on_ok_weaker}
use Rattle.file_vault.proofs.Exchanges.{exchanged_elapses, exchanged_cut, exchanged_short, exchanged_cut_at}
use Rattle.file_vault.proofs.renumbered.RenumberedFiles.cut.Goals as goal

pub returns-clause-cut : goal.returns-clause-cut
returns-clause-cut g c = λ known.
    on_ok_weaker c.cut.result (λ cut. exchanged_cut c.args.file c.exchanged.result c.args.at [] c.exchanged.ensures (g.F.Files.seen c.args.self.now.files) (g.F.Files.seen c.cut.new.self) cut) (c.cut.ensures.cut known)

pub returns-clause-short : goal.returns-clause-short
returns-clause-short g c = λ known. exchanged_short c.args.file c.exchanged.result c.args.at [] c.exchanged.ensures (g.F.Files.seen c.args.self.now.files) (g.F.Files.seen c.cut.new.self) (c.cut.ensures.short known)

pub returns-clause-time : goal.returns-clause-time
returns-clause-time g c = λ known stop.
    exchanged_elapses _ _ _ _ _ _ _ (c.cut.ensures.time known stop) (λ h during. exchanged_cut_at c.args.file c.exchanged.result c.args.at [] c.exchanged.ensures (g.F.Files.may_leave c.args.self.now.files stop) h during)
