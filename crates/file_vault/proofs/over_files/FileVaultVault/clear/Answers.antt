use Rattle.std.proofs.Common.{arith, rules, refl, sym, ◌∙◌, []}
use Rattle.std.proofs.lemmas.Bool.{true≢false}
use Rattle.file_vault.specs.Vaults.{plan_of}
use Rattle.file_vault.proofs.Places.{sound_as}
use Rattle.file_vault.proofs.Lifts.{lifted, at_once}
use Rattle.file_vault.proofs.Ended.{empty_sound, empty_read}
use Rattle.file_vault.proofs.JournalCalls.{all_durable, clear_to, cleared, attested_but}
use Rattle.file_vault.proofs.over_files.FileVaultVault.clear.Goals as goal

pub returns-then-self-clause-time : goal.returns-then-self-clause-time
returns-then-self-clause-time g c = λ known stop. at_once _ _ _ _ (λ i now. (i, now, search rules))

pub returns-in-Ok-clause-stays : goal.returns-in-Ok-clause-stays
returns-in-Ok-clause-stays g c = λ known.
    let is = known.files_known in
    record {
      files_known = c.end_at.ensures.stays is;
      batches = λ whole. record {
        batches = [];
        sound = sound_as _ _ _ _ _ _ _ _ _ _ (empty_sound g.F.Files.seen g.F.Files.may_leave c.args.self.now.files c.end_at.new.files (c.in-Ok.ensures.ended is) (c.in-Ok.ensures.durable is)) (sym c.clear.ensures.items) refl refl;
      };
      failed = λ broken. absurd (true≢false (sym broken ∙ c.if-self.false));
    }

pub returns-in-Ok-clause-cleared : goal.returns-in-Ok-clause-cleared
returns-in-Ok-clause-cleared g c = λ known.
    let is = known.files_known in
    cleared (plan_of c.args.self.now.layout) (g.F.Files.seen c.args.self.now.files) (g.F.Files.seen c.end_at.new.files) (c.end_at.ensures.others is)
    (empty_read (g.F.Files.seen c.end_at.new.files) ((c.in-Ok.ensures.ended is).zeros 4096 (omega arith)))

pub returns-in-Ok-clause-durable : goal.returns-in-Ok-clause-durable
returns-in-Ok-clause-durable g c = λ known.
    let is = known.files_known in
    all_durable (plan_of c.args.self.now.layout) g.F.Files.seen g.F.Files.may_leave c.end_at.new.files [] [] 4096 0
    (empty_sound g.F.Files.seen g.F.Files.may_leave c.args.self.now.files c.end_at.new.files (c.in-Ok.ensures.ended is) (c.in-Ok.ensures.durable is)) (omega arith)

pub returns-in-Err-clause-stays : goal.returns-in-Err-clause-stays
returns-in-Err-clause-stays g c = λ known. record {
  files_known = c.end_at.ensures.stays known.files_known;
  batches = λ whole. absurd (true≢false whole);
  failed = λ broken. (c.end_at.ensures.cause known.files_known).failed (search rules);
}

pub returns-in-Ok-clause-time : goal.returns-in-Ok-clause-time
returns-in-Ok-clause-time g c = λ known stop.
    lifted (plan_of c.args.self.now.layout) _ _ _ _ _ _ _ (c.end_at.ensures.time known.files_known stop) (clear_to (plan_of c.args.self.now.layout) (g.F.Files.may_leave c.args.self.now.files stop))

pub returns-in-Err-clause-time : goal.returns-in-Err-clause-time
returns-in-Err-clause-time g c = λ known stop.
    lifted (plan_of c.args.self.now.layout) _ _ _ _ _ _ _ (c.end_at.ensures.time known.files_known stop) (clear_to (plan_of c.args.self.now.layout) (g.F.Files.may_leave c.args.self.now.files stop))

pub returns-in-Ok-clause-attests : goal.returns-in-Ok-clause-attests
returns-in-Ok-clause-attests g c = λ known. attested_but (plan_of c.args.self.now.layout) (g.F.Files.seen c.args.self.now.files) (g.F.Files.seen c.end_at.new.files) (c.end_at.ensures.others known.files_known)

pub returns-in-Err-clause-attests : goal.returns-in-Err-clause-attests
returns-in-Err-clause-attests g c = λ known. attested_but (plan_of c.args.self.now.layout) (g.F.Files.seen c.args.self.now.files) (g.F.Files.seen c.end_at.new.files) (c.end_at.ensures.others known.files_known)
