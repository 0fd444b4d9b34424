use Rattle.std.proofs.Common.{sym, subst}
use Rattle.std.proofs.lemmas.Result.{on_ok_weaker}
use Rattle.vault.specs.declared.store.Stop.TheVariants.{Killed}
use Rattle.vault.specs.Moments.{Elapses, Within}
use Rattle.file_vault.specs.Folders.{wrote_at, mixed_at}
use Rattle.file_vault.specs.declared.held.Held.{Held}
use Rattle.file_vault.specs.Twins.{IsHeld, lead_of, shown}
use Rattle.file_vault.proofs.Shown.{shown_elapses}
use Rattle.file_vault.proofs.TwinCalls.{held_other, other_wrote, other_mixed, other_killed, other_within, ahead_wrote, lone_within, lone_killed}
use Rattle.file_vault.proofs.twin_files.TwinFilesFiles.write_at.Goals as goal

pub returns-then-file-ne-JOURNAL-clause-stays : goal.returns-then-file-ne-JOURNAL-clause-stays
returns-then-file-ne-JOURNAL-clause-stays g c = λ known. (
  c.write_at.ensures.stays known.0,
  held_other g.F.Files.seen g.F.Files.may_leave c.args.self.now.files c.write_at.new.self c.args.self.now.held c.args.file c.args.at c.args.bytes.now c.if-file-ne-JOURNAL.true c.if-file-eq-SECOND.false known.1 (c.write_at.ensures.mixed known.0)
      (λ stop. (c.write_at.ensures.time known.0 stop).ends),
)

pub returns-then-file-ne-JOURNAL-clause-wrote : goal.returns-then-file-ne-JOURNAL-clause-wrote
returns-then-file-ne-JOURNAL-clause-wrote g c = λ known.
    on_ok_weaker c.write_at.result (λ wrote. other_wrote (lead_of c.args.self.now.held) c.args.file c.args.at c.args.bytes.now (g.F.Files.seen c.args.self.now.files) (g.F.Files.seen c.write_at.new.self) c.if-file-ne-JOURNAL.true c.if-file-eq-SECOND.false wrote)
    (c.write_at.ensures.wrote known.0)

pub returns-then-file-ne-JOURNAL-clause-mixed : goal.returns-then-file-ne-JOURNAL-clause-mixed
returns-then-file-ne-JOURNAL-clause-mixed g c = λ known.
    other_mixed (lead_of c.args.self.now.held) c.args.file c.args.at c.args.bytes.now (g.F.Files.seen c.args.self.now.files) (g.F.Files.seen c.write_at.new.self) c.if-file-ne-JOURNAL.true c.if-file-eq-SECOND.false (c.write_at.ensures.mixed known.0)

pub returns-then-file-ne-JOURNAL-clause-killed : goal.returns-then-file-ne-JOURNAL-clause-killed
returns-then-file-ne-JOURNAL-clause-killed g c = λ known.
    on_ok_weaker c.write_at.result (λ within. other_killed c.args.file c.args.at c.args.bytes.now (g.F.Files.may_leave c.args.self.now.files Killed) (g.F.Files.may_leave c.write_at.new.self Killed) c.if-file-ne-JOURNAL.true c.if-file-eq-SECOND.false within)
    (c.write_at.ensures.killed known.0)

pub returns-then-file-ne-JOURNAL-clause-time : goal.returns-then-file-ne-JOURNAL-clause-time
returns-then-file-ne-JOURNAL-clause-time g c = λ known stop.
    shown_elapses _ _ _ _ _ _ _ (c.write_at.ensures.time known.0 stop) (other_within c.args.file c.args.at c.args.bytes.now (g.F.Files.may_leave c.args.self.now.files stop) c.if-file-ne-JOURNAL.true c.if-file-eq-SECOND.false)

pub returns-in-Both-clause-killed : goal.returns-in-Both-clause-killed
returns-in-Both-clause-killed g c = λ known.
    let held = subst (λ (h : Held). IsHeld g.F.Files.seen g.F.Files.may_leave c.args.self.now.files h) c.in-Both.is known.1 in
    on_ok_weaker c.outcome.result
    (λ kept. subst (λ n. Within (λ h. shown (g.F.Files.may_leave c.write_both-self.new.files Killed) h) (wrote_at n c.args.at c.args.bytes.now (λ h. shown (g.F.Files.may_leave c.args.self.now.files Killed) h))) (sym c.if-file-ne-JOURNAL.false)
    (c.write_both-self.ensures.killed known.0 held.0 held.1 kept))
    c.outcome.ensures.kept

pub returns-in-Both-clause-time : goal.returns-in-Both-clause-time
returns-in-Both-clause-time g c = λ known stop.
    let held = subst (λ (h : Held). IsHeld g.F.Files.seen g.F.Files.may_leave c.args.self.now.files h) c.in-Both.is known.1 in
    subst (λ n. Elapses (g.F.Files.moment c.args.self.now.files) (g.F.Files.moment c.write_both-self.new.files) (λ t h. shown (g.F.Files.left_since c.args.self.now.files stop t) h) (λ t h. shown (g.F.Files.left_since c.write_both-self.new.files stop t) h)
    (mixed_at n c.args.at c.args.bytes.now (λ h. shown (g.F.Files.may_leave c.args.self.now.files stop) h)) (λ h. shown (g.F.Files.may_leave c.write_both-self.new.files stop) h)) (sym c.if-file-ne-JOURNAL.false)
    (c.write_both-self.ensures.time known.0 held.0 stop)

pub returns-in-Only-clause-stays : goal.returns-in-Only-clause-stays
returns-in-Only-clause-stays g c = λ known.
    let held = subst (λ (h : Held). IsHeld g.F.Files.seen g.F.Files.may_leave c.args.self.now.files h) c.in-Only.is known.1 in (
      c.write_at-in-Only.ensures.stays known.0,
      subst (λ (h : Held). IsHeld g.F.Files.seen g.F.Files.may_leave c.write_at-in-Only.new.self h) (sym c.in-Only.is)
          (ahead_wrote g.F.Files.seen g.F.Files.may_leave c.args.self.now.files c.write_at-in-Only.new.self c.in-Only.twin c.in-Only.field-1 c.args.at c.number.result c.args.bytes.now c.if-at-lt-HEADER.false held
          (λ stop. (c.write_at-in-Only.ensures.time known.0 stop).ends)),
    )

pub returns-in-Only-clause-killed : goal.returns-in-Only-clause-killed
returns-in-Only-clause-killed g c = λ known.
    let held = subst (λ (h : Held). IsHeld g.F.Files.seen g.F.Files.may_leave c.args.self.now.files h) c.in-Only.is known.1 in
    on_ok_weaker c.write_at-in-Only.result
    (λ within. subst (λ n. Within (λ h. shown (g.F.Files.may_leave c.write_at-in-Only.new.self Killed) h) (wrote_at n c.args.at c.args.bytes.now (λ h. shown (g.F.Files.may_leave c.args.self.now.files Killed) h))) (sym c.if-file-ne-JOURNAL.false)
    (lone_killed c.in-Only.twin c.in-Only.field-1 c.number.result c.args.at c.args.bytes.now (g.F.Files.may_leave c.args.self.now.files Killed) (g.F.Files.may_leave c.write_at-in-Only.new.self Killed) c.number.ensures c.if-at-lt-HEADER.false (held Killed) within))
    (c.write_at-in-Only.ensures.killed known.0)

pub returns-in-Only-clause-time : goal.returns-in-Only-clause-time
returns-in-Only-clause-time g c = λ known stop.
    let held = subst (λ (h : Held). IsHeld g.F.Files.seen g.F.Files.may_leave c.args.self.now.files h) c.in-Only.is known.1 in
    subst (λ n. Elapses (g.F.Files.moment c.args.self.now.files) (g.F.Files.moment c.write_at-in-Only.new.self) (λ t h. shown (g.F.Files.left_since c.args.self.now.files stop t) h) (λ t h. shown (g.F.Files.left_since c.write_at-in-Only.new.self stop t) h)
    (mixed_at n c.args.at c.args.bytes.now (λ h. shown (g.F.Files.may_leave c.args.self.now.files stop) h)) (λ h. shown (g.F.Files.may_leave c.write_at-in-Only.new.self stop) h)) (sym c.if-file-ne-JOURNAL.false)
    (shown_elapses _ _ _ _ _ _ _ (c.write_at-in-Only.ensures.time known.0 stop)
    (lone_within c.in-Only.twin c.in-Only.field-1 c.number.result c.args.at c.args.bytes.now (g.F.Files.may_leave c.args.self.now.files stop) c.number.ensures c.if-at-lt-HEADER.false (held stop)))
