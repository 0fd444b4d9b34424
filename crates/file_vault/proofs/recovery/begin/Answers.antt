use Rattle.std.proofs.Common.{refl, sym, ◌∙◌, ap, []}
use Rattle.std.proofs.lemmas.Result.{on_ok_weaker}
use Rattle.vault.proofs.Carried.{on_ok_of}
use Rattle.file_vault.specs.Folders.{Folder}
use Rattle.file_vault.specs.Vaults.{plan_of}
use Rattle.file_vault.proofs.Blanks.{blank_seen, blank_but}
use Rattle.file_vault.proofs.JournalCalls.{units_durable}
use Rattle.file_vault.proofs.Syncs.{none_lost}
use Rattle.file_vault.proofs.Lifts.{sound_on}
use Rattle.file_vault.proofs.Ended.{empty_sound}
use Rattle.file_vault.proofs.recovery.begin.Goals as goal

pub returns-clause-kept : goal.returns-clause-kept
returns-clause-kept g c = λ known.
    let k0 = c.write_blanks.ensures.stays known in
    let k1 = c.end_at.ensures.stays k0 in
    let k2 = c.sync.ensures.stays k1 in
    let empty = empty_sound g.F.Files.seen g.F.Files.may_leave c.write_blanks.new.files c.end_at.new.files (c.in_ok-end_at.ensures.ended k0) (c.in_ok-end_at.ensures.durable k0) in
    let synced = sound_on _ _ c.end_at.new.files c.sync.new.self _ _ _ _ empty (ap (λ (f : Folder). f 17) (c.sync.ensures.seen k1)) (λ stop h there. (h, (c.sync.ensures.time k1 stop).ends h there, refl)) in
    on_ok_of _ c.sync_drives.result (sound_on _ _ c.sync.new.self c.sync_drives.new.files _ _ _ _ synced (ap (λ (f : Folder). f 17) (c.sync_drives.ensures.seen k2))
    (λ stop h there. (h, (c.sync_drives.ensures.time k2 stop).ends h there, refl)))

pub returns-clause-blank : goal.returns-clause-blank
returns-clause-blank g c = λ known.
    let plan = plan_of c.args.layout.now in
    let k0 = c.write_blanks.ensures.stays known in
    let k1 = c.end_at.ensures.stays k0 in
    on_ok_of _ c.sync_drives.result (λ x.
    blank_seen plan (g.F.Files.seen c.sync.new.self) (g.F.Files.seen c.sync_drives.new.files) (c.sync_drives.ensures.seen (c.sync.ensures.stays k1)) x
    (blank_seen plan (g.F.Files.seen c.end_at.new.files) (g.F.Files.seen c.sync.new.self) (c.sync.ensures.seen k1) x
    (blank_but plan (g.F.Files.seen c.write_blanks.new.files) (g.F.Files.seen c.end_at.new.files) (c.end_at.ensures.others k0) x (c.in_ok-write_blanks.ensures.blank known x))))

pub returns-clause-units : goal.returns-clause-units
returns-clause-units g c = λ known.
    let k1 = c.end_at.ensures.stays (c.write_blanks.ensures.stays known) in
    let k2 = c.sync.ensures.stays k1 in
    let same = c.sync_drives.ensures.seen k2 in
    on_ok_weaker c.sync_drives.result (λ synced stop.
    units_durable (plan_of c.args.layout.now) [] (g.F.Files.seen c.sync_drives.new.files) (g.F.Files.may_leave c.sync_drives.new.files stop)
    (λ d low live some h there. synced stop d low (none_lost 16 d) some h there ∙ sym (ap (λ (f : Folder). f d) same))
    (λ h there. c.in_ok-sync.ensures.durable k1 stop h ((c.sync_drives.ensures.time k2 stop).ends h there) ∙ sym (ap (λ (f : Folder). f 16) (same ∙ c.sync.ensures.seen k1))))
    (c.sync_drives.ensures.durable k2)
