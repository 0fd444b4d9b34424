use Rattle.file_vault.proofs.Units.{attested_seen}
use Rattle.std.proofs.Common.{Some, refl, sym, ◌∙◌, ap, arith}
use Rattle.std.proofs.lemmas.Result.{on_ok_weaker}
use Rattle.file_vault.specs.Folders.{Folder}
use Rattle.file_vault.specs.Vaults.{plan_of}
use Rattle.file_vault.proofs.Lifts.{lifted, known_on}
use Rattle.file_vault.proofs.JournalCalls.{counted, batch_read}
use Rattle.file_vault.proofs.Places.{memory_cause}
use Rattle.file_vault.proofs.over_files.FileVaultVault.read_batch.Goals as goal

pub returns-then-index-len-clause-cause : goal.returns-then-index-len-clause-cause
returns-then-index-len-clause-cause g c = λ known low.
    let some = known.batches c.if-self.false in
    let many = counted (plan_of c.args.self.now.layout) g.F.Files.seen g.F.Files.may_leave c.args.self.now.files c.args.self.now.places.items some.batches c.args.self.now.end c.args.self.now.durable some.sound in
    absurd (omega (arith, low, many, c.if-index-len.true, c.len.ensures, c.args.self.now.places.ok.0))

pub returns-in_err-read_body-clause-stays : goal.returns-in_err-read_body-clause-stays
returns-in_err-read_body-clause-stays g c = λ known.
    let is = known.files_known in
    known_on _ _ _ _ c.args.self.now.files c.read_body.new.files _ _ _ _ known (c.read_body.ensures.stays is) ((c.read_body.ensures.cause is).later)
    (ap (λ (f : Folder). f 17) (c.read_body.ensures.seen is)) (λ stop h now. (h, (c.read_body.ensures.time is stop).ends h now, refl))

pub returns-in_err-read_body-clause-time : goal.returns-in_err-read_body-clause-time
returns-in_err-read_body-clause-time g c = λ known stop. lifted (plan_of c.args.self.now.layout) _ _ _ _ _ _ _ (c.read_body.ensures.time known.files_known stop) (λ h was. (h, was, refl))

pub returns-clause-stays : goal.returns-clause-stays
returns-clause-stays g c = λ known.
    let is = known.files_known in
    known_on _ _ _ _ c.args.self.now.files c.read_body.new.files _ _ _ _ known (c.read_body.ensures.stays is) ((c.read_body.ensures.cause is).later)
    (ap (λ (f : Folder). f 17) (c.read_body.ensures.seen is)) (λ stop h now. (h, (c.read_body.ensures.time is stop).ends h now, refl))

pub returns-clause-time : goal.returns-clause-time
returns-clause-time g c = λ known stop. lifted (plan_of c.args.self.now.layout) _ _ _ _ _ _ _ (c.read_body.ensures.time known.files_known stop) (λ h was. (h, was, refl))

pub returns-clause-batch : goal.returns-clause-batch
returns-clause-batch g c = λ known low.
    let some = known.batches c.if-self.false in
    let read = batch_read (plan_of c.args.self.now.layout) g.F.Files.seen g.F.Files.may_leave c.args.self.now.files c.args.self.now.places.items some.batches c.args.self.now.end c.args.self.now.durable some.sound
    c.args.index c.place_after.result c.place_after-2.result c.saturating_add-body.result c.saturating_sub-length.result c.deref.result.now c.deref-2.result.now c.deref-3.result.now
    (omega (arith, c.if-index-len.false, c.len.ensures, c.args.self.now.places.ok.0)) c.deref.ensures.value c.deref-2.ensures.value c.place_after.ensures c.saturating_add-body.ensures c.place_after-2.ensures
    c.saturating_sub-length.ensures (c.deref-3.ensures.value ∙ c.in_ok-read_body.ensures.bytes known.files_known) in
    on_ok_weaker c.decode_into.result (λ same. read.1 ∙ ap (λ w. Some w) (sym same)) c.decode_into.ensures.batch

pub returns-clause-cause : goal.returns-clause-cause
returns-clause-cause g c = λ known low.
    let some = known.batches c.if-self.false in
    let read = batch_read (plan_of c.args.self.now.layout) g.F.Files.seen g.F.Files.may_leave c.args.self.now.files c.args.self.now.places.items some.batches c.args.self.now.end c.args.self.now.durable some.sound
    c.args.index c.place_after.result c.place_after-2.result c.saturating_add-body.result c.saturating_sub-length.result c.deref.result.now c.deref-2.result.now c.deref-3.result.now
    (omega (arith, c.if-index-len.false, c.len.ensures, c.args.self.now.places.ok.0)) c.deref.ensures.value c.deref-2.ensures.value c.place_after.ensures c.saturating_add-body.ensures c.place_after-2.ensures
    c.saturating_sub-length.ensures (c.deref-3.ensures.value ∙ c.in_ok-read_body.ensures.bytes known.files_known) in
    memory_cause _ _ _ c.decode_into.result ((c.read_body.ensures.cause known.files_known).later) (c.decode_into.ensures.is read.0)

pub returns-in_err-read_body-clause-attests : goal.returns-in_err-read_body-clause-attests
returns-in_err-read_body-clause-attests g c = λ known. attested_seen (plan_of c.args.self.now.layout) (g.F.Files.seen c.args.self.now.files) (g.F.Files.seen c.read_body.new.files) (c.read_body.ensures.seen known.files_known)

pub returns-clause-attests : goal.returns-clause-attests
returns-clause-attests g c = λ known. attested_seen (plan_of c.args.self.now.layout) (g.F.Files.seen c.args.self.now.files) (g.F.Files.seen c.read_body.new.files) (c.read_body.ensures.seen known.files_known)
