use Rattle.std.proofs.Common.{◌≡◌, length, ap, ◌∙◌}
use Rattle.script_io.proofs.Counts.{open_answered}
use Rattle.script_io.proofs.script.Script.answer_open.Goals as goal

pub returns-clause-fewer : goal.returns-clause-fewer
returns-clause-fewer c =
    let line_is : c.deref.result.now ≡ c.args.self.now.line.items = c.deref.ensures.value ∙ ap (λ line. line.items) c.replace-line.ensures.value in
    open_answered c.args.self.now c.deref.result.now c.replace-line.new.dest.items c.answer.new.self.line.items c.clear.new.self.items
    c.answer.new.self.number c.requires line_is (ap (λ line. length line.items) c.replace-line.ensures.after ∙ ap length c.new.ensures.items)
    (ap length c.in_ok-answer.ensures.none) (ap length c.clear.ensures.items) c.in_ok-answer.ensures.fewer

pub returns-clause-reported : goal.returns-clause-reported
returns-clause-reported c state matches =
    let line_is : c.deref.result.now ≡ c.args.self.now.line.items = c.deref.ensures.value ∙ ap (λ line. line.items) c.replace-line.ensures.value in
    let answered = c.in_ok-answer.ensures.reported state matches in
    record {
      number = answered.number;
      none = c.clear.ensures.items;
      reported = rw line_is at answered.reported;
    }
