use Rattle.std.proofs.Common.{sym, subst}
use Rattle.std.proofs.lemmas.Result.{on_ok_weaker}
use Rattle.vault.specs.Moments.{Elapses}
use Rattle.file_vault.specs.Folders.{cut_at}
use Rattle.file_vault.specs.declared.held.Held.{Held}
use Rattle.file_vault.specs.Twins.{IsHeld, lead_of, shown}
use Rattle.file_vault.proofs.Shown.{shown_elapses}
use Rattle.file_vault.proofs.Cuts.{held_other_cut, other_cut, other_short, other_cut_within, ahead_cut, lone_cut_within}
use Rattle.file_vault.proofs.twin_files.TwinFilesFiles.cut.Goals as goal

pub returns-then-file-ne-JOURNAL-clause-stays : goal.returns-then-file-ne-JOURNAL-clause-stays
returns-then-file-ne-JOURNAL-clause-stays g c = λ known. (
  c.cut.ensures.stays known.0,
  held_other_cut g.F.Files.seen g.F.Files.may_leave c.args.self.now.files c.cut.new.self c.args.self.now.held c.args.file c.args.at c.if-file-ne-JOURNAL.true c.if-file-eq-SECOND.false known.1 (c.cut.ensures.short known.0)
      (λ stop. (c.cut.ensures.time known.0 stop).ends),
)

pub returns-then-file-ne-JOURNAL-clause-cut : goal.returns-then-file-ne-JOURNAL-clause-cut
returns-then-file-ne-JOURNAL-clause-cut g c = λ known.
    on_ok_weaker c.cut.result (λ cut. other_cut (lead_of c.args.self.now.held) c.args.file c.args.at (g.F.Files.seen c.args.self.now.files) (g.F.Files.seen c.cut.new.self) c.if-file-ne-JOURNAL.true c.if-file-eq-SECOND.false cut)
    (c.cut.ensures.cut known.0)

pub returns-then-file-ne-JOURNAL-clause-short : goal.returns-then-file-ne-JOURNAL-clause-short
returns-then-file-ne-JOURNAL-clause-short g c = λ known.
    other_short (lead_of c.args.self.now.held) c.args.file c.args.at (g.F.Files.seen c.args.self.now.files) (g.F.Files.seen c.cut.new.self) c.if-file-ne-JOURNAL.true c.if-file-eq-SECOND.false (c.cut.ensures.short known.0)

pub returns-then-file-ne-JOURNAL-clause-time : goal.returns-then-file-ne-JOURNAL-clause-time
returns-then-file-ne-JOURNAL-clause-time g c = λ known stop.
    shown_elapses _ _ _ _ _ _ _ (c.cut.ensures.time known.0 stop) (other_cut_within c.args.file c.args.at (g.F.Files.may_leave c.args.self.now.files stop) c.if-file-ne-JOURNAL.true c.if-file-eq-SECOND.false)

pub returns-in-Both-clause-time : goal.returns-in-Both-clause-time
returns-in-Both-clause-time g c = λ known stop.
    let held = subst (λ (h : Held). IsHeld g.F.Files.seen g.F.Files.may_leave c.args.self.now.files h) c.in-Both.is known.1 in
    subst (λ n. Elapses (g.F.Files.moment c.args.self.now.files) (g.F.Files.moment c.cut_both-self.new.files) (λ t h. shown (g.F.Files.left_since c.args.self.now.files stop t) h) (λ t h. shown (g.F.Files.left_since c.cut_both-self.new.files stop t) h)
    (cut_at n c.args.at (λ h. shown (g.F.Files.may_leave c.args.self.now.files stop) h)) (λ h. shown (g.F.Files.may_leave c.cut_both-self.new.files stop) h)) (sym c.if-file-ne-JOURNAL.false)
    (c.cut_both-self.ensures.time known.0 held.0 stop)

pub returns-in-Only-clause-stays : goal.returns-in-Only-clause-stays
returns-in-Only-clause-stays g c = λ known.
    let held = subst (λ (h : Held). IsHeld g.F.Files.seen g.F.Files.may_leave c.args.self.now.files h) c.in-Only.is known.1 in (
      c.cut-in-Only.ensures.stays known.0,
      subst (λ (h : Held). IsHeld g.F.Files.seen g.F.Files.may_leave c.cut-in-Only.new.self h) (sym c.in-Only.is)
          (ahead_cut g.F.Files.may_leave c.args.self.now.files c.cut-in-Only.new.self c.in-Only.twin c.in-Only.field-1 c.args.at c.number.result c.if-at-lt-HEADER.false held
          (λ stop. (c.cut-in-Only.ensures.time known.0 stop).ends)),
    )

pub returns-in-Only-clause-time : goal.returns-in-Only-clause-time
returns-in-Only-clause-time g c = λ known stop.
    let held = subst (λ (h : Held). IsHeld g.F.Files.seen g.F.Files.may_leave c.args.self.now.files h) c.in-Only.is known.1 in
    subst (λ n. Elapses (g.F.Files.moment c.args.self.now.files) (g.F.Files.moment c.cut-in-Only.new.self) (λ t h. shown (g.F.Files.left_since c.args.self.now.files stop t) h) (λ t h. shown (g.F.Files.left_since c.cut-in-Only.new.self stop t) h)
    (cut_at n c.args.at (λ h. shown (g.F.Files.may_leave c.args.self.now.files stop) h)) (λ h. shown (g.F.Files.may_leave c.cut-in-Only.new.self stop) h)) (sym c.if-file-ne-JOURNAL.false)
    (shown_elapses _ _ _ _ _ _ _ (c.cut-in-Only.ensures.time known.0 stop)
    (lone_cut_within c.in-Only.twin c.in-Only.field-1 c.number.result c.args.at (g.F.Files.may_leave c.args.self.now.files stop) c.number.ensures c.if-at-lt-HEADER.false (held stop)))
