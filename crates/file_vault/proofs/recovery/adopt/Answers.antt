use Rattle.std.proofs.Common.{refl, ◌∙◌, ap, subst}
use Rattle.vault.specs.Moments.{Within}
use Rattle.file_vault.specs.Folders.{Folder}
use Rattle.file_vault.specs.Journals.{IsEnded, journal_of}
use Rattle.file_vault.specs.Recoveries.{leaves_read}
use Rattle.file_vault.proofs.Ended.{found_all, found_sound, adopt_ended}
use Rattle.file_vault.proofs.JournalCalls.{images_are}
use Rattle.file_vault.proofs.Puts.{one_elapse, both_elapse, sound_seen}
use Rattle.file_vault.proofs.recovery.adopt.Goals as goal

pub returns-in_err-chain-clause-time : goal.returns-in_err-chain-clause-time
returns-in_err-chain-clause-time g c = λ known stop. one_elapse _ _ _ _ _ _ _ ((c.find_chain.ensures.read known).time stop) (λ h was. (h, was, (λ d ne. refl), refl))

pub returns-in_err-sync-clause-time : goal.returns-in_err-sync-clause-time
returns-in_err-sync-clause-time g c = λ known stop.
    let read = c.find_chain.ensures.read known in
    let to : Within (g.F.Files.may_leave c.args.files.now stop) (leaves_read (g.F.Files.may_leave c.args.files.now stop)) = λ h was. (h, was, (λ d ne. refl), refl) in
    both_elapse _ _ _ _ _ _ _ _ _ _ _ (read.time stop) (c.sync.ensures.time read.keeps stop) to (λ h there. to h ((read.time stop).ends h there))

pub returns-in_err-end_at-clause-time : goal.returns-in_err-end_at-clause-time
returns-in_err-end_at-clause-time g c = λ known stop.
    let read = c.find_chain.ensures.read known in
    let found = found_all (g.F.Files.seen c.args.files.now) (g.F.Files.seen c.find_chain.new.files) read.same _ _ (c.in_ok-chain.ensures.found known) in
    let to : Within (g.F.Files.may_leave c.args.files.now stop) (leaves_read (g.F.Files.may_leave c.args.files.now stop)) = λ h was. (h, was, (λ d ne. refl), refl) in
    let so_far = both_elapse _ _ _ _ _ _ _ _ _ _ _ (read.time stop) (c.sync.ensures.time read.keeps stop) to (λ h there. to h ((read.time stop).ends h there)) in
    both_elapse _ _ _ _ _ _ _ _ _ _ _ so_far (c.end_at.ensures.time (c.sync.ensures.stays read.keeps) stop) (λ h d. d)
    (adopt_ended (g.F.Files.seen c.find_chain.new.files 17) _ _ _ found (g.F.Files.may_leave c.args.files.now stop) (g.F.Files.may_leave c.sync.new.self stop)
    (λ h there. (read.time stop).ends h ((c.sync.ensures.time read.keeps stop).ends h there)) (c.in_ok-sync.ensures.durable read.keeps stop))

pub returns-clause-known : goal.returns-clause-known
returns-clause-known g c = λ known.
    let read = c.find_chain.ensures.read known in
    let found = found_all (g.F.Files.seen c.args.files.now) (g.F.Files.seen c.find_chain.new.files) read.same _ _ (c.in_ok-chain.ensures.found known) in
    let k2 = c.sync.ensures.stays read.keeps in
    let sound = found_sound g.F.Files.seen g.F.Files.may_leave c.end_at.new.files (g.F.Files.seen c.find_chain.new.files 17) _ _ _ found
    (subst (λ (f : Folder). IsEnded c.in_ok-chain.chain.end (f 17) (g.F.Files.seen c.end_at.new.files 17)) (c.sync.ensures.seen read.keeps) (c.in_ok-end_at.ensures.ended k2)) (c.in_ok-end_at.ensures.durable k2) in
    record { batches = journal_of (g.F.Files.seen c.args.files.now); sound = sound }

pub returns-clause-seen : goal.returns-clause-seen
returns-clause-seen g c = λ known plan.
    let read = c.find_chain.ensures.read known in
    let found = found_all (g.F.Files.seen c.args.files.now) (g.F.Files.seen c.find_chain.new.files) read.same _ _ (c.in_ok-chain.ensures.found known) in
    let k2 = c.sync.ensures.stays read.keeps in
    let sound = found_sound g.F.Files.seen g.F.Files.may_leave c.end_at.new.files (g.F.Files.seen c.find_chain.new.files 17) _ _ _ found
    (subst (λ (f : Folder). IsEnded c.in_ok-chain.chain.end (f 17) (g.F.Files.seen c.end_at.new.files 17)) (c.sync.ensures.seen read.keeps) (c.in_ok-end_at.ensures.ended k2)) (c.in_ok-end_at.ensures.durable k2) in
    images_are plan (g.F.Files.seen c.args.files.now) (g.F.Files.seen c.end_at.new.files)
    (λ d ne. c.end_at.ensures.others k2 d ne ∙ ap (λ (f : Folder). f d) (c.sync.ensures.seen read.keeps) ∙ ap (λ (f : Folder). f d) read.same)
    (sound_seen g.F.Files.seen g.F.Files.may_leave c.end_at.new.files _ _ _ _ sound)

pub returns-clause-time : goal.returns-clause-time
returns-clause-time g c = λ known stop.
    let read = c.find_chain.ensures.read known in
    let found = found_all (g.F.Files.seen c.args.files.now) (g.F.Files.seen c.find_chain.new.files) read.same _ _ (c.in_ok-chain.ensures.found known) in
    let to : Within (g.F.Files.may_leave c.args.files.now stop) (leaves_read (g.F.Files.may_leave c.args.files.now stop)) = λ h was. (h, was, (λ d ne. refl), refl) in
    let so_far = both_elapse _ _ _ _ _ _ _ _ _ _ _ (read.time stop) (c.sync.ensures.time read.keeps stop) to (λ h there. to h ((read.time stop).ends h there)) in
    both_elapse _ _ _ _ _ _ _ _ _ _ _ so_far (c.end_at.ensures.time (c.sync.ensures.stays read.keeps) stop) (λ h d. d)
    (adopt_ended (g.F.Files.seen c.find_chain.new.files 17) _ _ _ found (g.F.Files.may_leave c.args.files.now stop) (g.F.Files.may_leave c.sync.new.self stop)
    (λ h there. (read.time stop).ends h ((c.sync.ensures.time read.keeps stop).ends h there)) (c.in_ok-sync.ensures.durable read.keeps stop))
