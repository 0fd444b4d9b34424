use Rattle.std.proofs.Common.{◌∙◌, ap}
use Rattle.std.proofs.lemmas.Result.{IfOk-weaker}
use Rattle.file_vault.specs.Folders.{Bytes}
use Rattle.file_vault.specs.Twins.{lead_of, file_of, after_first_block}
use Rattle.file_vault.proofs.Shown.{shown_elapses, with_other}
use Rattle.file_vault.proofs.TwinCalls.{held_read}
use Rattle.file_vault.proofs.twin_files.TwinFilesFiles.length.Goals as goal

pub returns-then-file-ne-JOURNAL-clause-stays : goal.returns-then-file-ne-JOURNAL-clause-stays
returns-then-file-ne-JOURNAL-clause-stays g c = λ known. (
  c.length.ensures.stays known.0,
  held_read g.F.Files.seen g.F.Files.may_leave c.args.self.now.files c.length.new.self c.args.self.now.held known.1 (c.length.ensures.seen known.0) (λ stop. (c.length.ensures.time known.0 stop).ends),
)

pub returns-then-file-ne-JOURNAL-clause-time : goal.returns-then-file-ne-JOURNAL-clause-time
returns-then-file-ne-JOURNAL-clause-time g c = λ known stop. shown_elapses _ _ _ _ _ _ _ (c.length.ensures.time known.0 stop) (λ h d. d)

pub returns-in-Both-clause-stays : goal.returns-in-Both-clause-stays
returns-in-Both-clause-stays g c = λ known. (
  c.length-in-Both.ensures.stays known.0,
  held_read g.F.Files.seen g.F.Files.may_leave c.args.self.now.files c.length-in-Both.new.self c.args.self.now.held known.1 (c.length-in-Both.ensures.seen known.0) (λ stop. (c.length-in-Both.ensures.time known.0 stop).ends),
)

pub returns-in-Both-clause-time : goal.returns-in-Both-clause-time
returns-in-Both-clause-time g c = λ known stop. shown_elapses _ _ _ _ _ _ _ (c.length-in-Both.ensures.time known.0 stop) (λ h d. d)

pub returns-in-Only-clause-stays : goal.returns-in-Only-clause-stays
returns-in-Only-clause-stays g c = λ known. (
  c.length-in-Only.ensures.stays known.0,
  held_read g.F.Files.seen g.F.Files.may_leave c.args.self.now.files c.length-in-Only.new.self c.args.self.now.held known.1 (c.length-in-Only.ensures.seen known.0) (λ stop. (c.length-in-Only.ensures.time known.0 stop).ends),
)

pub returns-in-Only-clause-time : goal.returns-in-Only-clause-time
returns-in-Only-clause-time g c = λ known stop. shown_elapses _ _ _ _ _ _ _ (c.length-in-Only.ensures.time known.0 stop) (λ h d. d)

pub returns-in-Neither-clause-time : goal.returns-in-Neither-clause-time
returns-in-Neither-clause-time g c = λ known stop. shown_elapses _ _ _ _ _ _ _ (c.length-in-Neither.ensures.time known.0 stop) (λ h d. d)

pub returns-then-file-ne-JOURNAL-clause-zeros : goal.returns-then-file-ne-JOURNAL-clause-zeros
returns-then-file-ne-JOURNAL-clause-zeros g c = λ known.
    IfOk-weaker c.length.result _ _
    (λ end zeros k past. ap (λ (b : Bytes). b k) (with_other (after_first_block (g.F.Files.seen c.args.self.now.files (file_of (lead_of c.args.self.now.held)))) (g.F.Files.seen c.args.self.now.files) c.args.file c.if-file-ne-JOURNAL.true c.if-file-eq-SECOND.false) ∙ zeros k past)
    (c.length.ensures.zeros known.0)
