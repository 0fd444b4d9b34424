use Rattle.std.proofs.Common.{sym, ◌∙◌, ap, subst}
use Rattle.vault.specs.declared.store.Stop.{Stop}
use Rattle.file_vault.specs.Folders.{Folder, HasFile}
use Rattle.file_vault.specs.Twins.{file_of, other, copied_at, CopiedOver}
use Rattle.file_vault.proofs.Puts.{one_elapse, both_elapse}
use Rattle.file_vault.proofs.Copied.{copied_still, copied_next, alike_from}
use Rattle.file_vault.proofs.joined.copy_over.Goals as goal

pub returns-in_err-end-clause-time : goal.returns-in_err-end-clause-time
returns-in_err-end-clause-time g c = λ known stop. one_elapse _ _ _ _ _ _ (copied_at c.args.lead (g.F.Files.seen c.args.files.now) (g.F.Files.may_leave c.args.files.now stop)) (c.end_of.ensures.time known stop) (λ h now. (h, now, copied_still _ _ h))

pub returns-then-end-gt-MOST-clause-time : goal.returns-then-end-gt-MOST-clause-time
returns-then-end-gt-MOST-clause-time g c = λ known stop. one_elapse _ _ _ _ _ _ (copied_at c.args.lead (g.F.Files.seen c.args.files.now) (g.F.Files.may_leave c.args.files.now stop)) (c.end_of.ensures.time known stop) (λ h now. (h, now, copied_still _ _ h))

pub returns-in_err-copy_to-clause-seen : goal.returns-in_err-copy_to-clause-seen
returns-in_err-copy_to-clause-seen g c = λ known.
    let k1 = c.end_of.ensures.stays known in
    let same = c.end_of.ensures.seen known in
    let copied = subst (λ (f : Folder). CopiedOver c.args.lead f f (g.F.Files.seen c.copy_to.new.files)) same (c.copy_to.ensures.seen k1) in
    copied

pub returns-in_err-copy_to-clause-time : goal.returns-in_err-copy_to-clause-time
returns-in_err-copy_to-clause-time g c = λ known stop.
    let k1 = c.end_of.ensures.stays known in
    let first = one_elapse _ _ _ _ _ _ (copied_at c.args.lead (g.F.Files.seen c.args.files.now) (g.F.Files.may_leave c.args.files.now stop)) (c.end_of.ensures.time known stop) (λ h now. (h, now, copied_still _ _ h)) in
    let copied = both_elapse _ _ _ _ _ _ _ _ _ _ _ first (c.copy_to.ensures.time k1 stop) (λ h d. d)
    (copied_next c.args.lead (g.F.Files.seen c.args.files.now) (g.F.Files.seen c.end_of.new.files) (g.F.Files.may_leave c.args.files.now stop) (g.F.Files.may_leave c.end_of.new.files stop)
    (ap (λ (f : Folder). f (file_of c.args.lead)) (c.end_of.ensures.seen known)) first.ends) in
    copied

pub returns-in-Ok-clause-seen : goal.returns-in-Ok-clause-seen
returns-in-Ok-clause-seen g c = λ known.
    let k1 = c.end_of.ensures.stays known in
    let same = c.end_of.ensures.seen known in
    let copied = subst (λ (f : Folder). CopiedOver c.args.lead f f (g.F.Files.seen c.copy_to.new.files)) same (c.copy_to.ensures.seen k1) in
    let all = subst (λ (f : Folder). CopiedOver c.args.lead (g.F.Files.seen c.args.files.now) (g.F.Files.seen c.args.files.now) f) (sym (c.sync.ensures.seen (c.copy_to.ensures.stays k1))) copied in
    all

pub returns-in-Ok-clause-time : goal.returns-in-Ok-clause-time
returns-in-Ok-clause-time g c = λ known stop.
    let k1 = c.end_of.ensures.stays known in
    let first = one_elapse _ _ _ _ _ _ (copied_at c.args.lead (g.F.Files.seen c.args.files.now) (g.F.Files.may_leave c.args.files.now stop)) (c.end_of.ensures.time known stop) (λ h now. (h, now, copied_still _ _ h)) in
    let copied = both_elapse _ _ _ _ _ _ _ _ _ _ _ first (c.copy_to.ensures.time k1 stop) (λ h d. d)
    (copied_next c.args.lead (g.F.Files.seen c.args.files.now) (g.F.Files.seen c.end_of.new.files) (g.F.Files.may_leave c.args.files.now stop) (g.F.Files.may_leave c.end_of.new.files stop)
    (ap (λ (f : Folder). f (file_of c.args.lead)) (c.end_of.ensures.seen known)) first.ends) in
    both_elapse _ _ _ _ _ _ _ _ _ _ _ copied (c.sync.ensures.time (c.copy_to.ensures.stays k1) stop) (λ h d. d) (λ h there. copied.ends h there)

pub returns-in-Err-clause-seen : goal.returns-in-Err-clause-seen
returns-in-Err-clause-seen g c = λ known.
    let k1 = c.end_of.ensures.stays known in
    let same = c.end_of.ensures.seen known in
    let copied = subst (λ (f : Folder). CopiedOver c.args.lead f f (g.F.Files.seen c.copy_to.new.files)) same (c.copy_to.ensures.seen k1) in
    let all = subst (λ (f : Folder). CopiedOver c.args.lead (g.F.Files.seen c.args.files.now) (g.F.Files.seen c.args.files.now) f) (sym (c.sync.ensures.seen (c.copy_to.ensures.stays k1))) copied in
    all

pub returns-in-Err-clause-time : goal.returns-in-Err-clause-time
returns-in-Err-clause-time g c = λ known stop.
    let k1 = c.end_of.ensures.stays known in
    let first = one_elapse _ _ _ _ _ _ (copied_at c.args.lead (g.F.Files.seen c.args.files.now) (g.F.Files.may_leave c.args.files.now stop)) (c.end_of.ensures.time known stop) (λ h now. (h, now, copied_still _ _ h)) in
    let copied = both_elapse _ _ _ _ _ _ _ _ _ _ _ first (c.copy_to.ensures.time k1 stop) (λ h d. d)
    (copied_next c.args.lead (g.F.Files.seen c.args.files.now) (g.F.Files.seen c.end_of.new.files) (g.F.Files.may_leave c.args.files.now stop) (g.F.Files.may_leave c.end_of.new.files stop)
    (ap (λ (f : Folder). f (file_of c.args.lead)) (c.end_of.ensures.seen known)) first.ends) in
    both_elapse _ _ _ _ _ _ _ _ _ _ _ copied (c.sync.ensures.time (c.copy_to.ensures.stays k1) stop) (λ h d. d) (λ h there. copied.ends h there)

pub returns-in-Ok-clause-alike : goal.returns-in-Ok-clause-alike
returns-in-Ok-clause-alike g c = λ known.
    let k1 = c.end_of.ensures.stays known in
    let same = c.end_of.ensures.seen known in
    let copied = subst (λ (f : Folder). CopiedOver c.args.lead f f (g.F.Files.seen c.copy_to.new.files)) same (c.copy_to.ensures.seen k1) in
    let all = subst (λ (f : Folder). CopiedOver c.args.lead (g.F.Files.seen c.args.files.now) (g.F.Files.seen c.args.files.now) f) (sym (c.sync.ensures.seen (c.copy_to.ensures.stays k1))) copied in
    alike_from c.args.lead (g.F.Files.seen c.args.files.now) (g.F.Files.seen c.sync.new.self) c.in_ok-end.end all
    (λ k past low. ap (λ (f : Folder). f (file_of (other c.args.lead)) k) (c.sync.ensures.seen (c.copy_to.ensures.stays k1)) ∙ c.in_ok-copy_to.ensures.done k1 k past low ∙ ap (λ (f : Folder). f (file_of c.args.lead) k) same)
    (c.in_ok-end.ensures.zeros known)

pub returns-in-Ok-clause-durable : goal.returns-in-Ok-clause-durable
returns-in-Ok-clause-durable g c = λ known (stop : Stop).
    let k2 = c.copy_to.ensures.stays (c.end_of.ensures.stays known) in
    subst (λ n. HasFile n (g.F.Files.seen c.sync.new.self) (g.F.Files.may_leave c.sync.new.self stop)) (c.number.ensures ∙ ap file_of c.other.ensures)
    (λ h now. c.in-Ok.ensures.durable k2 stop h now ∙ sym (ap (λ (f : Folder). f c.number.result) (c.sync.ensures.seen k2)))
