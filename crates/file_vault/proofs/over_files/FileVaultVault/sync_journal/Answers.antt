use Rattle.file_vault.proofs.Units.{attested_seen}
use Rattle.std.proofs.Common.{arith, rules, refl, sym, ◌∙◌, ap}
use Rattle.std.proofs.lemmas.Bool.{true≢false}
use Rattle.file_vault.specs.Folders.{Folder}
use Rattle.file_vault.specs.Journals.{image_of}
use Rattle.file_vault.specs.Vaults.{plan_of, left_of}
use Rattle.file_vault.proofs.Places.{sound_as}
use Rattle.file_vault.proofs.Lifts.{lifted, at_once}
use Rattle.file_vault.proofs.Ended.{flushed_sound}
use Rattle.file_vault.proofs.JournalCalls.{all_seen, more_not}
use Rattle.file_vault.proofs.over_files.FileVaultVault.sync_journal.Goals as goal

pub returns-then-self-clause-time : goal.returns-then-self-clause-time
returns-then-self-clause-time g c = λ known stop. at_once _ _ _ _
    (λ i now. more_not (image_of (plan_of c.args.self.now.layout) (g.F.Files.seen c.args.self.now.files)) (λ j. left_of (plan_of c.args.self.now.layout) (g.F.Files.may_leave c.args.self.now.files stop) j) i now)

pub returns-then-self-len-clause-durable : goal.returns-then-self-len-clause-durable
returns-then-self-len-clause-durable g c = λ known.
    let some = known.batches c.if-self.false in
    all_seen (plan_of c.args.self.now.layout) g.F.Files.seen g.F.Files.may_leave c.args.self.now.files c.args.self.now.places.items some.batches c.args.self.now.end c.args.self.now.durable some.sound
    (omega (arith, c.args.self.now.places.ok.0))

pub returns-then-self-len-clause-time : goal.returns-then-self-len-clause-time
returns-then-self-len-clause-time g c = λ known stop. at_once _ _ _ _
    (λ i now. more_not (image_of (plan_of c.args.self.now.layout) (g.F.Files.seen c.args.self.now.files)) (λ j. left_of (plan_of c.args.self.now.layout) (g.F.Files.may_leave c.args.self.now.files stop) j) i now)

pub returns-in-Ok-clause-stays : goal.returns-in-Ok-clause-stays
returns-in-Ok-clause-stays g c = λ known.
    let some = known.batches c.if-self.false in
    let is = known.files_known in
    record {
      files_known = c.sync.ensures.stays is;
      batches = λ whole. record {
        batches = some.batches;
        sound = sound_as _ _ _ _ _ _ _ _ _ _ (flushed_sound g.F.Files.seen g.F.Files.may_leave c.args.self.now.files c.sync.new.self c.args.self.now.places.items some.batches c.args.self.now.end c.args.self.now.durable some.sound
            (ap (λ (f : Folder). f 17) (c.sync.ensures.seen is)) (c.in-Ok.ensures.durable is)) refl refl (sym (c.len-self.ensures ∙ c.args.self.now.places.ok.0));
      };
      failed = λ broken. let was = known.failed broken in let later = (c.sync.ensures.cause is).later in omega (arith, was, later);
    }

pub returns-in-Ok-clause-seen : goal.returns-in-Ok-clause-seen
returns-in-Ok-clause-seen g c = λ known. ap (λ (f : Folder). image_of (plan_of c.args.self.now.layout) f) (c.sync.ensures.seen known.files_known)

pub returns-in-Ok-clause-durable : goal.returns-in-Ok-clause-durable
returns-in-Ok-clause-durable g c = λ known stop i left.
    let some = known.batches c.if-self.false in
    let is = known.files_known in
    all_seen (plan_of c.args.self.now.layout) g.F.Files.seen g.F.Files.may_leave c.sync.new.self c.args.self.now.places.items some.batches c.args.self.now.end _
    (flushed_sound g.F.Files.seen g.F.Files.may_leave c.args.self.now.files c.sync.new.self c.args.self.now.places.items some.batches c.args.self.now.end c.args.self.now.durable some.sound
    (ap (λ (f : Folder). f 17) (c.sync.ensures.seen is)) (c.in-Ok.ensures.durable is)) (omega arith) stop i left
    ∙ ap (λ (f : Folder). (image_of (plan_of c.args.self.now.layout) f).journal) (c.sync.ensures.seen is)

pub returns-in-Ok-clause-time : goal.returns-in-Ok-clause-time
returns-in-Ok-clause-time g c = λ known stop.
    lifted (plan_of c.args.self.now.layout) _ _ _ _ _ _ _ (c.sync.ensures.time known.files_known stop)
    (λ h was. more_not (image_of (plan_of c.args.self.now.layout) (g.F.Files.seen c.args.self.now.files)) (λ j. left_of (plan_of c.args.self.now.layout) (g.F.Files.may_leave c.args.self.now.files stop) j) _ (h, was, refl))

pub returns-in-Err-clause-stays : goal.returns-in-Err-clause-stays
returns-in-Err-clause-stays g c = λ known. record {
  files_known = c.sync.ensures.stays known.files_known;
  batches = λ whole. absurd (true≢false whole);
  failed = λ broken. (c.sync.ensures.cause known.files_known).failed (search rules);
}

pub returns-in-Err-clause-seen : goal.returns-in-Err-clause-seen
returns-in-Err-clause-seen g c = λ known. ap (λ (f : Folder). image_of (plan_of c.args.self.now.layout) f) (c.sync.ensures.seen known.files_known)

pub returns-in-Err-clause-time : goal.returns-in-Err-clause-time
returns-in-Err-clause-time g c = λ known stop.
    lifted (plan_of c.args.self.now.layout) _ _ _ _ _ _ _ (c.sync.ensures.time known.files_known stop)
    (λ h was. more_not (image_of (plan_of c.args.self.now.layout) (g.F.Files.seen c.args.self.now.files)) (λ j. left_of (plan_of c.args.self.now.layout) (g.F.Files.may_leave c.args.self.now.files stop) j) _ (h, was, refl))

pub returns-in-Ok-clause-attests : goal.returns-in-Ok-clause-attests
returns-in-Ok-clause-attests g c = λ known. attested_seen (plan_of c.args.self.now.layout) (g.F.Files.seen c.args.self.now.files) (g.F.Files.seen c.sync.new.self) (c.sync.ensures.seen known.files_known)

pub returns-in-Err-clause-attests : goal.returns-in-Err-clause-attests
returns-in-Err-clause-attests g c = λ known. attested_seen (plan_of c.args.self.now.layout) (g.F.Files.seen c.args.self.now.files) (g.F.Files.seen c.sync.new.self) (c.sync.ensures.seen known.files_known)
