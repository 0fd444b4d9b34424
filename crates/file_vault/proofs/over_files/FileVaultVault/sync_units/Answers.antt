use Rattle.file_vault.proofs.Units.{attested_seen}
use Rattle.std.proofs.Common.{rules, refl, ◌∙◌, ap, arith}
use Rattle.vault.proofs.Carried.{cause_passed}
use Rattle.file_vault.specs.Folders.{Folder}
use Rattle.file_vault.specs.Vaults.{plan_of}
use Rattle.file_vault.proofs.Puts.{both_elapse}
use Rattle.file_vault.proofs.Lifts.{lifted, known_on}
use Rattle.file_vault.proofs.JournalCalls.{units_durable}
use Rattle.file_vault.proofs.over_files.FileVaultVault.sync_units.Goals as goal

pub returns-in_err-sync_drives-clause-stays : goal.returns-in_err-sync_drives-clause-stays
returns-in_err-sync_drives-clause-stays g c = λ known.
    let is = known.files_known in
    known_on _ _ _ _ c.args.self.now.files c.sync_drives.new.files _ _ _ _ known (c.sync_drives.ensures.stays is) ((c.sync_drives.ensures.cause is).later)
    (ap (λ (f : Folder). f 17) (c.sync_drives.ensures.seen is)) (λ stop h now. (h, (c.sync_drives.ensures.time is stop).ends h now, refl))

pub returns-in_err-sync_drives-clause-time : goal.returns-in_err-sync_drives-clause-time
returns-in_err-sync_drives-clause-time g c = λ known stop.
    lifted (plan_of c.args.self.now.layout) _ _ _ _ _ _ _ (c.sync_drives.ensures.time known.files_known stop) (λ h was. (h, was, refl))

pub returns-in_err-sync_drives-clause-cause : goal.returns-in_err-sync_drives-clause-cause
returns-in_err-sync_drives-clause-cause g c = λ known.
    cause_passed _ _ _ c.sync_drives.result c.from_residual.result c.in_err-sync_drives.field-0.0 c.in_err-sync_drives.was (search rules) (c.sync_drives.ensures.cause known.files_known)

pub returns-in-Ok-clause-stays : goal.returns-in-Ok-clause-stays
returns-in-Ok-clause-stays g c = λ known.
    let is = known.files_known in
    let mid = c.sync_drives.ensures.stays is in
    let first = (c.sync_drives.ensures.cause is).later in
    let second = (c.sync.ensures.cause mid).later in
    known_on _ _ _ _ c.args.self.now.files c.sync.new.self _ _ _ _ known (c.sync.ensures.stays mid) (omega (arith, first, second))
    (ap (λ (f : Folder). f 17) (c.sync.ensures.seen mid ∙ c.sync_drives.ensures.seen is))
    (λ stop h now. (h, (c.sync_drives.ensures.time is stop).ends h ((c.sync.ensures.time mid stop).ends h now), refl))

pub returns-in-Ok-clause-durable : goal.returns-in-Ok-clause-durable
returns-in-Ok-clause-durable g c = λ known stop.
    let is = known.files_known in
    let mid = c.sync_drives.ensures.stays is in
    units_durable (plan_of c.args.self.now.layout) c.args.lost.now (g.F.Files.seen c.args.self.now.files) (g.F.Files.may_leave c.sync.new.self stop)
    (λ d low live some h now. c.in_ok-sync_drives.ensures.durable is stop d low live some h ((c.sync.ensures.time mid stop).ends h now))
    (λ h now. c.in-Ok.ensures.durable mid stop h now ∙ ap (λ (f : Folder). f 16) (c.sync_drives.ensures.seen is))

pub returns-in-Ok-clause-time : goal.returns-in-Ok-clause-time
returns-in-Ok-clause-time g c = λ known stop.
    let is = known.files_known in
    let first = c.sync_drives.ensures.time is stop in
    lifted (plan_of c.args.self.now.layout) _ _ _ _ (g.F.Files.may_leave c.args.self.now.files stop) _ _
    (both_elapse _ _ _ _ _ _ _ _ _ _ _ first (c.sync.ensures.time (c.sync_drives.ensures.stays is) stop) (λ h d. d) (λ h there. first.ends h there)) (λ h was. (h, was, refl))

pub returns-in-Err-clause-stays : goal.returns-in-Err-clause-stays
returns-in-Err-clause-stays g c = λ known.
    let is = known.files_known in
    let mid = c.sync_drives.ensures.stays is in
    let first = (c.sync_drives.ensures.cause is).later in
    let second = (c.sync.ensures.cause mid).later in
    known_on _ _ _ _ c.args.self.now.files c.sync.new.self _ _ _ _ known (c.sync.ensures.stays mid) (omega (arith, first, second))
    (ap (λ (f : Folder). f 17) (c.sync.ensures.seen mid ∙ c.sync_drives.ensures.seen is))
    (λ stop h now. (h, (c.sync_drives.ensures.time is stop).ends h ((c.sync.ensures.time mid stop).ends h now), refl))

pub returns-in-Err-clause-time : goal.returns-in-Err-clause-time
returns-in-Err-clause-time g c = λ known stop.
    let is = known.files_known in
    let first = c.sync_drives.ensures.time is stop in
    lifted (plan_of c.args.self.now.layout) _ _ _ _ (g.F.Files.may_leave c.args.self.now.files stop) _ _
    (both_elapse _ _ _ _ _ _ _ _ _ _ _ first (c.sync.ensures.time (c.sync_drives.ensures.stays is) stop) (λ h d. d) (λ h there. first.ends h there)) (λ h was. (h, was, refl))

pub returns-in_err-sync_drives-clause-attests : goal.returns-in_err-sync_drives-clause-attests
returns-in_err-sync_drives-clause-attests g c = λ known. attested_seen (plan_of c.args.self.now.layout) (g.F.Files.seen c.args.self.now.files) (g.F.Files.seen c.sync_drives.new.files) (c.sync_drives.ensures.seen known.files_known)

pub returns-in-Ok-clause-attests : goal.returns-in-Ok-clause-attests
returns-in-Ok-clause-attests g c = λ known. attested_seen (plan_of c.args.self.now.layout) (g.F.Files.seen c.args.self.now.files) (g.F.Files.seen c.sync.new.self) (c.sync.ensures.seen (c.sync_drives.ensures.stays known.files_known) ∙ c.sync_drives.ensures.seen known.files_known)

pub returns-in-Err-clause-attests : goal.returns-in-Err-clause-attests
returns-in-Err-clause-attests g c = λ known. attested_seen (plan_of c.args.self.now.layout) (g.F.Files.seen c.args.self.now.files) (g.F.Files.seen c.sync.new.self) (c.sync.ensures.seen (c.sync_drives.ensures.stays known.files_known) ∙ c.sync_drives.ensures.seen known.files_known)
