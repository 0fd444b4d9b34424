use Rattle.std.proofs.Common.{◌≡◌, ◌∷◌, ◌++◌, [], length, ap, ◌∙◌, length-append, arith, Ok, Err}
use Rattle.std.proofs.lemmas.Result.{err_from_is_err_and}
use Rattle.script_io.specs.Feeding.{most_left}
use Rattle.script_io.proofs.Counts.{line_read, rest_read}
use Rattle.script_io.proofs.Feeds.{empty_line, end_answered, end_refused, fed_answered, last_part, turn_done, turn_stopped}
use Rattle.script_io.proofs.script.Script.feed.Goals as goal

pub returns-in_err-take_in-clause-fed : goal.returns-in_err-take_in-clause-fed
returns-in_err-take_in-clause-fed c state matches =
    let p = err_from_is_err_and c.from_residual.result c.from_residual.ensures.1 in
    rw (p.1, p.2) (turn_stopped _ c.args.self.now state c.loop-part.self c.take_in.new.self _ _ _ _
    c.in-Some.ensures.some.1 (c.loop-part.invariant.along state matches)
    (λ s on. end_refused _ c.loop-part.self s c.take_in.new.self c.in-Some.part.now on (c.in_err-take_in.ensures.fed s on)))

pub returns-in_err-answer_open-clause-fed : goal.returns-in_err-answer_open-clause-fed
returns-in_err-answer_open-clause-fed c state matches =
    let p = err_from_is_err_and c.from_residual-in_err-answer_open.result c.from_residual-in_err-answer_open.ensures.1 in
    rw (p.1, p.2) (turn_stopped _ c.args.self.now state c.loop-part.self c.answer_open.new.self _ _ _ _
    c.in-Some.ensures.some.1 (c.loop-part.invariant.along state matches)
    (λ s on. end_answered (Err c.in_err-answer_open.field-0.0) c.loop-part.self s c.take_in.new.self c.answer_open.new.self c.in-Some.part.now on
    (c.in_ok-take_in.ensures.fed s on) c.in_ok-take_in.ensures.keeps.open_line c.in_err-answer_open.ensures.reported))

pub returns-in_err-answer-clause-fed : goal.returns-in_err-answer-clause-fed
returns-in_err-answer-clause-fed c state matches =
    let p = err_from_is_err_and c.from_residual-in_err-answer.result c.from_residual-in_err-answer.ensures.1 in
    let none : c.loop-part.self.line.items ≡ [] =
    empty_line _ c.loop-part.self.line.items c.is_empty.result c.loop-part.self.line.ok.0 c.is_empty.ensures c.if-not-is_empty.false in
    rw (p.1, p.2) (turn_stopped _ c.args.self.now state c.loop-part.self c.answer.new.self _ _ _ _
    c.in-Some.ensures.some.1 (c.loop-part.invariant.along state matches)
    (λ s on. fed_answered (Err c.in_err-answer.field-0.0) c.loop-part.self s c.in-Some.part.now c.answer.new.self c.in-Some.part.now
    (ap (λ line. line ++ c.in-Some.part.now) none) c.in-Some.ensures.some.0 (c.in_err-answer.ensures.reported s on)))

pub returns-clause-fewer : goal.returns-clause-fewer
returns-clause-fewer c =
    rest_read c.take_in-2.result (most_left c.args.self.now) (most_left c.loop-part.self) (most_left c.take_in-2.new.self)
    (length c.args.chunk.now) (length c.loop-part.rest.now) c.loop-part.invariant.fewer c.take_in-2.ensures.fewer

pub returns-clause-fed : goal.returns-clause-fed
returns-clause-fed c state matches =
    last_part c.take_in-2.result c.args.self.now state c.loop-part.self c.take_in-2.new.self c.args.chunk.now c.loop-part.rest.now
    (c.loop-part.invariant.along state matches) c.take_in-2.ensures.fed

pub loop-part-preserved : goal.loop-part-preserved
loop-part-preserved c =
    let none : c.loop-part.self.line.items ≡ [] =
    empty_line _ c.loop-part.self.line.items c.is_empty.result c.loop-part.self.line.ok.0 c.is_empty.ensures c.if-not-is_empty.false in
    record {
      good = c.in_ok-answer.ensures.keeps;
      fewer =
          line_read (most_left c.args.self.now) (most_left c.loop-part.self) (most_left c.answer.new.self)
          (length c.args.chunk.now) (length c.loop-part.rest.now) (length c.in-Some.part.now) (length c.in-Some.following.now)
          c.loop-part.invariant.fewer c.in_ok-answer.ensures.fewer
          (ap length c.in-Some.ensures.some.1 ∙ length-append c.in-Some.part.now (10 ∷ c.in-Some.following.now));
      along = λ state matches.
          turn_done c.args.self.now state c.loop-part.self c.answer.new.self _ _ _ _ c.in-Some.ensures.some.1
          (c.loop-part.invariant.along state matches)
          (λ s on. fed_answered (Ok tt) c.loop-part.self s c.in-Some.part.now c.answer.new.self c.in-Some.part.now
          (ap (λ line. line ++ c.in-Some.part.now) none) c.in-Some.ensures.some.0 (c.in_ok-answer.ensures.reported s on));
    }

pub loop-part-preserved-in_ok-answer_open : goal.loop-part-preserved-in_ok-answer_open
loop-part-preserved-in_ok-answer_open c = record {
  good = c.in_ok-answer_open.ensures.keeps;
  fewer =
      line_read (most_left c.args.self.now) (most_left c.loop-part.self) (most_left c.answer_open.new.self)
      (length c.args.chunk.now) (length c.loop-part.rest.now) (length c.in-Some.part.now) (length c.in-Some.following.now)
      c.loop-part.invariant.fewer (omega (arith, c.in_ok-take_in.ensures.fewer, c.in_ok-answer_open.ensures.fewer))
      (ap length c.in-Some.ensures.some.1 ∙ length-append c.in-Some.part.now (10 ∷ c.in-Some.following.now));
  along = λ state matches.
      turn_done c.args.self.now state c.loop-part.self c.answer_open.new.self _ _ _ _ c.in-Some.ensures.some.1
      (c.loop-part.invariant.along state matches)
      (λ s on. end_answered (Ok tt) c.loop-part.self s c.take_in.new.self c.answer_open.new.self c.in-Some.part.now on
      (c.in_ok-take_in.ensures.fed s on) c.in_ok-take_in.ensures.keeps.open_line c.in_ok-answer_open.ensures.reported);
}
