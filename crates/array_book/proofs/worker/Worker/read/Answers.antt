use Rattle.std.proofs.Common.{◌≡◌, rules, subst}
use Rattle.step_core.specs.Reported.{Lesson}
use Rattle.map_join.specs.declared.records.Record.{Record}
use Rattle.array_book.specs.Takes.{taker_of, IsReadRecord, Learnt}
use Rattle.array_book.proofs.Telling.{reported_is}
use Rattle.array_book.proofs.worker.Worker.read.Goals as goal

pub returns-in-Ok-clause-some : goal.returns-in-Ok-clause-some
returns-in-Ok-clause-some g c reading is =
    let before = taker_of c.args.controller c.args.self.now.even c.args.self.now.odd in
    let between = taker_of c.args.controller c.find.new.self.even c.find.new.self.odd in
    let after = taker_of c.args.controller c.learn.new.self.even c.learn.new.self.odd in
    let found = c.in-Some.found in
    let same : c.in-Ok.reading ≡ reading = search rules in
    let reported : c.record.result ≡ c.in-Ok.reading.reported = cc in
    let learned = subst (λ (r : Record). Learnt r found between after) reported c.learn.ensures.learnt in
    subst (λ (l : Lesson). IsReadRecord before c.args.block after l.reported) same
    (reported_is before between after c.args.block found c.in-Ok.reading.reported (search rules) (search rules) (search rules)
    (search rules) (search rules) learned)

pub returns-in-Ok-clause-called : goal.returns-in-Ok-clause-called
returns-in-Ok-clause-called g c =
    let between = taker_of c.args.controller c.find.new.self.even c.find.new.self.odd in
    let after = taker_of c.args.controller c.learn.new.self.even c.learn.new.self.odd in
    let reported : c.record.result ≡ c.in-Ok.reading.reported = cc in
    record {
      found = c.in-Some.found;
      between = between;
      of = search rules;
      written = search rules;
      asked = search rules;
      learned = search rules;
      learnt = subst (λ (r : Record). Learnt r c.in-Some.found between after) reported c.learn.ensures.learnt;
    }

pub returns-in-Err-clause-called : goal.returns-in-Err-clause-called
returns-in-Err-clause-called g c = record {
  found = c.in-Some.found;
  of = search rules;
  asked = search rules;
  why = c.in-Err.refusal;
  reported_is = search rules;
  noted = search rules;
}
