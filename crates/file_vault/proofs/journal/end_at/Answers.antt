use Rattle.std.proofs.Common.{◌∙◌, inl, ap, sym, arith}
use Rattle.std.proofs.lemmas.Result.{on_ok_weaker}
use Rattle.vault.proofs.Carried.{on_ok_of}
use Rattle.file_vault.specs.Folders.{Folder}
use Rattle.file_vault.proofs.Puts.{one_elapse, both_elapse}
use Rattle.file_vault.proofs.Ended.{end_first, end_second}
use Rattle.file_vault.proofs.journal.end_at.Goals as goal

pub returns-in_err-write_at-clause-time : goal.returns-in_err-write_at-clause-time
returns-in_err-write_at-clause-time g c = λ known stop. one_elapse _ _ _ _ _ _ _ (c.write_at.ensures.time known stop) (end_first c.args.at (g.F.Files.may_leave c.args.files.now stop))

pub returns-in_err-sync-clause-time : goal.returns-in_err-sync-clause-time
returns-in_err-sync-clause-time g c = λ known stop.
    let first = c.write_at.ensures.time known stop in
    let to = end_first c.args.at (g.F.Files.may_leave c.args.files.now stop) in
    both_elapse _ _ _ _ _ _ _ _ _ _ _ first (c.sync.ensures.time (c.write_at.ensures.stays known) stop) to (λ h there. to h (first.ends h there))

pub returns-in_err-cut-clause-time : goal.returns-in_err-cut-clause-time
returns-in_err-cut-clause-time g c = λ known stop.
    let k1 = c.write_at.ensures.stays known in
    let first = c.write_at.ensures.time known stop in
    let to = end_first c.args.at (g.F.Files.may_leave c.args.files.now stop) in
    let so_far = both_elapse _ _ _ _ _ _ _ _ _ _ _ first (c.sync.ensures.time k1 stop) to (λ h there. to h (first.ends h there)) in
    both_elapse _ _ _ _ _ _ _ _ _ _ _ so_far (c.cut.ensures.time (c.sync.ensures.stays k1) stop) (λ h d. d)
    (end_second c.args.at (g.F.Files.seen c.write_at.new.self) (g.F.Files.may_leave c.args.files.now stop) (g.F.Files.may_leave c.sync.new.self stop) (λ h there. so_far.ends h there) (c.in_ok-sync.ensures.durable k1 stop)
    (ap (g.F.Files.seen c.write_at.new.self 17) (omega arith) ∙ (c.in_ok-write_at.ensures.wrote known).inside 0 (omega arith)))

pub returns-clause-others : goal.returns-clause-others
returns-clause-others g c = λ known d ne.
    let k1 = c.write_at.ensures.stays known in
    let k2 = c.sync.ensures.stays k1 in
    ap (λ (f : Folder). f d) (c.sync-2.ensures.seen (c.cut.ensures.stays k2)) ∙ (c.cut.ensures.short k2).others d ne ∙ ap (λ (f : Folder). f d) (c.sync.ensures.seen k1) ∙ (c.write_at.ensures.mixed known).others d ne

pub returns-clause-ended : goal.returns-clause-ended
returns-clause-ended g c = λ known.
    let k1 = c.write_at.ensures.stays known in
    let k2 = c.sync.ensures.stays k1 in
    let cut = c.in_ok-cut.ensures.cut k2 in
    let last = c.sync-2.ensures.seen (c.cut.ensures.stays k2) in
    on_ok_of _ c.sync-2.result (record {
      before = λ k low. ap (λ (f : Folder). f 17 k) last ∙ cut.before k low ∙ ap (λ (f : Folder). f 17 k) (c.sync.ensures.seen k1) ∙ (c.in_ok-write_at.ensures.wrote known).outside k (inl low);
      zeros = λ k past. ap (λ (f : Folder). f 17 k) last ∙ cut.zeros k past;
    })

pub returns-clause-durable : goal.returns-clause-durable
returns-clause-durable g c = λ known.
    let k3 = c.cut.ensures.stays (c.sync.ensures.stays (c.write_at.ensures.stays known)) in
    on_ok_weaker c.sync-2.result (λ synced stop h there. synced stop h there ∙ sym (ap (λ (f : Folder). f 17) (c.sync-2.ensures.seen k3))) (c.sync-2.ensures.durable k3)

pub returns-clause-time : goal.returns-clause-time
returns-clause-time g c = λ known stop.
    let k1 = c.write_at.ensures.stays known in
    let k2 = c.sync.ensures.stays k1 in
    let first = c.write_at.ensures.time known stop in
    let to = end_first c.args.at (g.F.Files.may_leave c.args.files.now stop) in
    let so_far = both_elapse _ _ _ _ _ _ _ _ _ _ _ first (c.sync.ensures.time k1 stop) to (λ h there. to h (first.ends h there)) in
    let cut = both_elapse _ _ _ _ _ _ _ _ _ _ _ so_far (c.cut.ensures.time k2 stop) (λ h d. d)
    (end_second c.args.at (g.F.Files.seen c.write_at.new.self) (g.F.Files.may_leave c.args.files.now stop) (g.F.Files.may_leave c.sync.new.self stop) (λ h there. so_far.ends h there) (c.in_ok-sync.ensures.durable k1 stop)
    (ap (g.F.Files.seen c.write_at.new.self 17) (omega arith) ∙ (c.in_ok-write_at.ensures.wrote known).inside 0 (omega arith))) in
    both_elapse _ _ _ _ _ _ _ _ _ _ _ cut (c.sync-2.ensures.time (c.cut.ensures.stays k2) stop) (λ h d. d) (λ h there. cut.ends h there)
