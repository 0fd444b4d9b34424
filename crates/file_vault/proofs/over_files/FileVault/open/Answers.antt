use Rattle.std.proofs.Common.{arith, refl, sym, ◌∙◌}
use Rattle.std.proofs.lemmas.Bool.{false≢true}
use Rattle.file_vault.specs.Vaults.{plan_of}
use Rattle.file_vault.proofs.Places.{sound_as}
use Rattle.file_vault.proofs.Lifts.{lifted}
use Rattle.file_vault.proofs.JournalCalls.{all_seen, read_to}
use Rattle.file_vault.proofs.over_files.FileVault.open.Goals as goal

pub returns-in-Ok-clause-known : goal.returns-in-Ok-clause-known
returns-in-Ok-clause-known g c = λ known.
    let some = c.in-Ok.ensures.known known in
    record {
      files_known = c.adopt.ensures.stays known;
      batches = λ whole. record { batches = some.batches; sound = sound_as _ _ _ _ _ _ _ _ _ _ some.sound refl refl (sym (c.len-durable.ensures ∙ c.in-Ok.chain.places.ok.0)) };
      failed = λ broken. absurd (false≢true broken);
    }

pub returns-in-Ok-clause-seen : goal.returns-in-Ok-clause-seen
returns-in-Ok-clause-seen g c = λ known. c.in-Ok.ensures.seen known (plan_of c.args.layout)

pub returns-in-Ok-clause-durable : goal.returns-in-Ok-clause-durable
returns-in-Ok-clause-durable g c = λ known.
    let some = c.in-Ok.ensures.known known in
    all_seen (plan_of c.args.layout) g.F.Files.seen g.F.Files.may_leave c.adopt.new.files c.in-Ok.chain.places.items some.batches c.in-Ok.chain.end _ some.sound (omega arith)

pub returns-in-Ok-clause-time : goal.returns-in-Ok-clause-time
returns-in-Ok-clause-time g c = λ known stop. lifted (plan_of c.args.layout) _ _ _ _ _ _ _ (c.adopt.ensures.time known stop) (read_to (plan_of c.args.layout) (g.F.Files.may_leave c.args.files stop))

pub returns-in-Err-clause-time : goal.returns-in-Err-clause-time
returns-in-Err-clause-time g c = λ known stop. lifted (plan_of c.args.layout) _ _ _ _ _ _ _ (c.adopt.ensures.time known stop) (read_to (plan_of c.args.layout) (g.F.Files.may_leave c.args.files stop))
