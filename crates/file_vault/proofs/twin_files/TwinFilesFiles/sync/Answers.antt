use Rattle.std.proofs.Common.{sym, subst}
use Rattle.std.proofs.lemmas.Result.{on_ok_weaker}
use Rattle.vault.specs.declared.store.Stop.{Stop}
use Rattle.file_vault.specs.Folders.{HasFile}
use Rattle.file_vault.specs.declared.held.Held.{Held}
use Rattle.file_vault.specs.Twins.{IsHeld, lead_of, seen_as, shown}
use Rattle.file_vault.proofs.Shown.{shown_elapses}
use Rattle.file_vault.proofs.TwinCalls.{held_read, other_file, lone_file}
use Rattle.file_vault.proofs.twin_files.TwinFilesFiles.sync.Goals as goal

pub returns-then-file-ne-JOURNAL-clause-stays : goal.returns-then-file-ne-JOURNAL-clause-stays
returns-then-file-ne-JOURNAL-clause-stays g c = λ known. (
  c.sync.ensures.stays known.0,
  held_read g.F.Files.seen g.F.Files.may_leave c.args.self.now.files c.sync.new.self c.args.self.now.held known.1 (c.sync.ensures.seen known.0) (λ stop. (c.sync.ensures.time known.0 stop).ends),
)

pub returns-then-file-ne-JOURNAL-clause-durable : goal.returns-then-file-ne-JOURNAL-clause-durable
returns-then-file-ne-JOURNAL-clause-durable g c = λ known.
    on_ok_weaker c.sync.result (λ durable (stop : Stop). other_file c.args.file (g.F.Files.seen c.args.self.now.files) (g.F.Files.may_leave c.sync.new.self stop) (lead_of c.args.self.now.held) c.if-file-ne-JOURNAL.true c.if-file-eq-SECOND.false (durable stop))
    (c.sync.ensures.durable known.0)

pub returns-then-file-ne-JOURNAL-clause-time : goal.returns-then-file-ne-JOURNAL-clause-time
returns-then-file-ne-JOURNAL-clause-time g c = λ known stop. shown_elapses _ _ _ _ _ _ _ (c.sync.ensures.time known.0 stop) (λ h d. d)

pub returns-in-Only-clause-stays : goal.returns-in-Only-clause-stays
returns-in-Only-clause-stays g c = λ known. (
  c.sync-in-Only.ensures.stays known.0,
  held_read g.F.Files.seen g.F.Files.may_leave c.args.self.now.files c.sync-in-Only.new.self c.args.self.now.held known.1 (c.sync-in-Only.ensures.seen known.0) (λ stop. (c.sync-in-Only.ensures.time known.0 stop).ends),
)

pub returns-in-Only-clause-time : goal.returns-in-Only-clause-time
returns-in-Only-clause-time g c = λ known stop. shown_elapses _ _ _ _ _ _ _ (c.sync-in-Only.ensures.time known.0 stop) (λ h d. d)

pub returns-in-Both-clause-time : goal.returns-in-Both-clause-time
returns-in-Both-clause-time g c = λ known stop.
    let held = subst (λ (h : Held). IsHeld g.F.Files.seen g.F.Files.may_leave c.args.self.now.files h) c.in-Both.is known.1 in
    c.sync_both-self.ensures.time known.0 held.0 stop

pub returns-in-Both-clause-durable : goal.returns-in-Both-clause-durable
returns-in-Both-clause-durable g c = λ known.
    let held = subst (λ (h : Held). IsHeld g.F.Files.seen g.F.Files.may_leave c.args.self.now.files h) c.in-Both.is known.1 in
    on_ok_weaker c.outcome.result
    (λ kept (stop : Stop). subst (λ n. HasFile n (seen_as (lead_of c.args.self.now.held) (g.F.Files.seen c.args.self.now.files)) (λ h. shown (g.F.Files.may_leave c.sync_both-self.new.files stop) h)) (sym c.if-file-ne-JOURNAL.false)
    (subst (λ (h : Held). HasFile 17 (seen_as (lead_of h) (g.F.Files.seen c.args.self.now.files)) (λ x. shown (g.F.Files.may_leave c.sync_both-self.new.files stop) x)) (sym c.in-Both.is)
    (c.sync_both-self.ensures.durable known.0 held.1 (c.sync_both-self.ensures.held known.0 held.0 held.1) kept stop)))
    c.outcome.ensures.kept

pub returns-in-Only-clause-durable : goal.returns-in-Only-clause-durable
returns-in-Only-clause-durable g c = λ known.
    let held = subst (λ (h : Held). IsHeld g.F.Files.seen g.F.Files.may_leave c.args.self.now.files h) c.in-Only.is known.1 in
    on_ok_weaker c.sync-in-Only.result
    (λ durable (stop : Stop). subst (λ n. HasFile n (seen_as (lead_of c.args.self.now.held) (g.F.Files.seen c.args.self.now.files)) (λ h. shown (g.F.Files.may_leave c.sync-in-Only.new.self stop) h)) (sym c.if-file-ne-JOURNAL.false)
    (subst (λ (h : Held). HasFile 17 (seen_as (lead_of h) (g.F.Files.seen c.args.self.now.files)) (λ x. shown (g.F.Files.may_leave c.sync-in-Only.new.self stop) x)) (sym c.in-Only.is)
    (lone_file c.in-Only.twin c.in-Only.field-1 c.number.result (g.F.Files.seen c.args.self.now.files) (g.F.Files.may_leave c.sync-in-Only.new.self stop) c.number.ensures
    (λ h now. held stop h ((c.sync-in-Only.ensures.time known.0 stop).ends h now)) (durable stop))))
    (c.sync-in-Only.ensures.durable known.0)
