use Rattle.std.proofs.Common.{subst}
use Rattle.file_vault.specs.declared.held.Held.{Held}
use Rattle.file_vault.specs.Twins.{IsHeld}
use Rattle.file_vault.proofs.Shown.{shown_elapses}
use Rattle.file_vault.proofs.TwinCalls.{held_read}
use Rattle.file_vault.proofs.twin_files.TwinFilesFiles.read_at.Goals as goal

pub returns-then-file-ne-JOURNAL-clause-stays : goal.returns-then-file-ne-JOURNAL-clause-stays
returns-then-file-ne-JOURNAL-clause-stays g c = λ known. (
  c.read_at.ensures.stays known.0,
  held_read g.F.Files.seen g.F.Files.may_leave c.args.self.now.files c.read_at.new.self c.args.self.now.held known.1 (c.read_at.ensures.seen known.0) (λ stop. (c.read_at.ensures.time known.0 stop).ends),
)

pub returns-then-file-ne-JOURNAL-clause-time : goal.returns-then-file-ne-JOURNAL-clause-time
returns-then-file-ne-JOURNAL-clause-time g c = λ known stop. shown_elapses _ _ _ _ _ _ _ (c.read_at.ensures.time known.0 stop) (λ h d. d)

pub returns-in-Both-clause-time : goal.returns-in-Both-clause-time
returns-in-Both-clause-time g c = λ known stop.
    let held = subst (λ (h : Held). IsHeld g.F.Files.seen g.F.Files.may_leave c.args.self.now.files h) c.in-Both.is known.1 in
    c.read_both-self.ensures.time known.0 held.0 stop

pub returns-in-Only-clause-stays : goal.returns-in-Only-clause-stays
returns-in-Only-clause-stays g c = λ known. (
  c.read_at-in-Only.ensures.stays known.0,
  held_read g.F.Files.seen g.F.Files.may_leave c.args.self.now.files c.read_at-in-Only.new.self c.args.self.now.held known.1 (c.read_at-in-Only.ensures.seen known.0) (λ stop. (c.read_at-in-Only.ensures.time known.0 stop).ends),
)

pub returns-in-Only-clause-time : goal.returns-in-Only-clause-time
returns-in-Only-clause-time g c = λ known stop. shown_elapses _ _ _ _ _ _ _ (c.read_at-in-Only.ensures.time known.0 stop) (λ h d. d)
