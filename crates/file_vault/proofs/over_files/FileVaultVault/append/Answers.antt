use Rattle.std.proofs.Common.{arith, refl, sym, ◌∙◌, ap, subst, rules, [], ◌∷◌, ◌++◌, ◌+◌, List, ℕ}
use Rattle.std.proofs.lemmas.Bool.{true≢false}
use Rattle.vault.specs.declared.store.Stop.TheVariants.{Killed, PowerLost}
use Rattle.file_vault.specs.Records.{IsBatchRecord}
use Rattle.file_vault.specs.Journals.{MayPut}
use Rattle.file_vault.specs.Vaults.{plan_of}
use Rattle.file_vault.proofs.Places.{sound_as}
use Rattle.file_vault.proofs.Lifts.{lifted}
use Rattle.file_vault.proofs.Puts.{put_sound}
use Rattle.file_vault.proofs.JournalCalls.{append_to, append_killed, appended, attested_but}
use Rattle.file_vault.proofs.over_files.FileVaultVault.append.Goals as goal

pub returns-in-Ok-clause-stays : goal.returns-in-Ok-clause-stays
returns-in-Ok-clause-stays g c = λ known.
    let some = known.batches c.if-self.false in
    let may : MayPut g.F.Files.seen g.F.Files.may_leave c.args.self.now.files c.args.self.now.places.items some.batches c.args.self.now.end c.args.self.now.durable c.deref.result.now c.args.batch.now =
    record {
      sound = some.sound;
      put = subst (λ (b : List ℕ). IsBatchRecord b c.args.batch.now) (sym c.deref.ensures.value) c.in_ok-make_record.ensures;
      room = omega (arith, c.deref.ensures.len, c.len-length.ensures, c.if-length-gt-LIMIT.false, c.if-self-gt-LIMIT.false);
    } in
    let is = known.files_known in
    let sound = put_sound g.F.Files.seen g.F.Files.may_leave c.args.self.now.files c.args.self.now.places.items some.batches c.args.self.now.end c.args.self.now.durable c.deref.result.now c.args.batch.now may c.write_at.new.self (c.in-Ok.ensures.wrote is) (c.in-Ok.ensures.killed is) ((c.write_at.ensures.time is PowerLost).ends) in
    record {
      files_known = c.write_at.ensures.stays is;
      batches = λ whole. record {
        batches = some.batches ++ c.args.batch.now ∷ [];
        sound = sound_as _ _ _ _ _ _ _ _ _ _ sound
            (ap (λ (l : List ℕ). l ++ c.args.self.now.end ∷ []) (sym c.reserve.ensures.items) ∙ sym c.push_reserved.ensures.items)
            (ap (λ n. c.args.self.now.end + n) (c.deref.ensures.len ∙ sym c.len-length.ensures)) refl;
      };
      failed = λ broken. let was = known.failed broken in let later = (c.write_at.ensures.cause is).later in omega (arith, was, later);
    }

pub returns-in-Ok-clause-appended : goal.returns-in-Ok-clause-appended
returns-in-Ok-clause-appended g c = λ known.
    let some = known.batches c.if-self.false in
    let may : MayPut g.F.Files.seen g.F.Files.may_leave c.args.self.now.files c.args.self.now.places.items some.batches c.args.self.now.end c.args.self.now.durable c.deref.result.now c.args.batch.now =
    record {
      sound = some.sound;
      put = subst (λ (b : List ℕ). IsBatchRecord b c.args.batch.now) (sym c.deref.ensures.value) c.in_ok-make_record.ensures;
      room = omega (arith, c.deref.ensures.len, c.len-length.ensures, c.if-length-gt-LIMIT.false, c.if-self-gt-LIMIT.false);
    } in
    let is = known.files_known in
    let sound = put_sound g.F.Files.seen g.F.Files.may_leave c.args.self.now.files c.args.self.now.places.items some.batches c.args.self.now.end c.args.self.now.durable c.deref.result.now c.args.batch.now may c.write_at.new.self (c.in-Ok.ensures.wrote is) (c.in-Ok.ensures.killed is) ((c.write_at.ensures.time is PowerLost).ends) in
    appended (plan_of c.args.self.now.layout) g.F.Files.seen g.F.Files.may_leave c.args.self.now.files c.args.self.now.places.items some.batches c.args.self.now.end c.args.self.now.durable c.deref.result.now c.args.batch.now may c.write_at.new.self ((c.write_at.ensures.mixed is).others) sound

pub returns-in-Ok-clause-killed : goal.returns-in-Ok-clause-killed
returns-in-Ok-clause-killed g c = λ known.
    let some = known.batches c.if-self.false in
    let may : MayPut g.F.Files.seen g.F.Files.may_leave c.args.self.now.files c.args.self.now.places.items some.batches c.args.self.now.end c.args.self.now.durable c.deref.result.now c.args.batch.now =
    record {
      sound = some.sound;
      put = subst (λ (b : List ℕ). IsBatchRecord b c.args.batch.now) (sym c.deref.ensures.value) c.in_ok-make_record.ensures;
      room = omega (arith, c.deref.ensures.len, c.len-length.ensures, c.if-length-gt-LIMIT.false, c.if-self-gt-LIMIT.false);
    } in
    let is = known.files_known in
    let sound = put_sound g.F.Files.seen g.F.Files.may_leave c.args.self.now.files c.args.self.now.places.items some.batches c.args.self.now.end c.args.self.now.durable c.deref.result.now c.args.batch.now may c.write_at.new.self (c.in-Ok.ensures.wrote is) (c.in-Ok.ensures.killed is) ((c.write_at.ensures.time is PowerLost).ends) in
    append_killed (plan_of c.args.self.now.layout) g.F.Files.seen g.F.Files.may_leave c.args.self.now.files c.args.self.now.places.items some.batches c.args.self.now.end c.args.self.now.durable c.deref.result.now c.args.batch.now may c.write_at.new.self sound ((c.write_at.ensures.time is Killed).ends)

pub returns-in-Ok-clause-time : goal.returns-in-Ok-clause-time
returns-in-Ok-clause-time g c = λ known stop.
    let some = known.batches c.if-self.false in
    let may : MayPut g.F.Files.seen g.F.Files.may_leave c.args.self.now.files c.args.self.now.places.items some.batches c.args.self.now.end c.args.self.now.durable c.deref.result.now c.args.batch.now =
    record {
      sound = some.sound;
      put = subst (λ (b : List ℕ). IsBatchRecord b c.args.batch.now) (sym c.deref.ensures.value) c.in_ok-make_record.ensures;
      room = omega (arith, c.deref.ensures.len, c.len-length.ensures, c.if-length-gt-LIMIT.false, c.if-self-gt-LIMIT.false);
    } in
    lifted (plan_of c.args.self.now.layout) _ _ _ _ _ _ _ (c.write_at.ensures.time known.files_known stop)
    (append_to (plan_of c.args.self.now.layout) g.F.Files.seen g.F.Files.may_leave c.args.self.now.files c.args.self.now.places.items some.batches c.args.self.now.end c.args.self.now.durable c.deref.result.now c.args.batch.now may stop)

pub returns-in-Err-clause-stays : goal.returns-in-Err-clause-stays
returns-in-Err-clause-stays g c = λ known. record {
  files_known = c.write_at.ensures.stays known.files_known;
  batches = λ whole. absurd (true≢false whole);
  failed = λ broken. (c.write_at.ensures.cause known.files_known).failed (search rules);
}

pub returns-in-Err-clause-time : goal.returns-in-Err-clause-time
returns-in-Err-clause-time g c = λ known stop.
    let some = known.batches c.if-self.false in
    let may : MayPut g.F.Files.seen g.F.Files.may_leave c.args.self.now.files c.args.self.now.places.items some.batches c.args.self.now.end c.args.self.now.durable c.deref.result.now c.args.batch.now =
    record {
      sound = some.sound;
      put = subst (λ (b : List ℕ). IsBatchRecord b c.args.batch.now) (sym c.deref.ensures.value) c.in_ok-make_record.ensures;
      room = omega (arith, c.deref.ensures.len, c.len-length.ensures, c.if-length-gt-LIMIT.false, c.if-self-gt-LIMIT.false);
    } in
    lifted (plan_of c.args.self.now.layout) _ _ _ _ _ _ _ (c.write_at.ensures.time known.files_known stop)
    (append_to (plan_of c.args.self.now.layout) g.F.Files.seen g.F.Files.may_leave c.args.self.now.files c.args.self.now.places.items some.batches c.args.self.now.end c.args.self.now.durable c.deref.result.now c.args.batch.now may stop)

pub returns-in-Ok-clause-attests : goal.returns-in-Ok-clause-attests
returns-in-Ok-clause-attests g c = λ known. attested_but (plan_of c.args.self.now.layout) (g.F.Files.seen c.args.self.now.files) (g.F.Files.seen c.write_at.new.self) ((c.write_at.ensures.mixed known.files_known).others)

pub returns-in-Err-clause-attests : goal.returns-in-Err-clause-attests
returns-in-Err-clause-attests g c = λ known. attested_but (plan_of c.args.self.now.layout) (g.F.Files.seen c.args.self.now.files) (g.F.Files.seen c.write_at.new.self) ((c.write_at.ensures.mixed known.files_known).others)
