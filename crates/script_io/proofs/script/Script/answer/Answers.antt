use Rattle.std.proofs.Common.{◌∙◌, refl, rules}
use Rattle.script_io.proofs.Lines.{cut_back}
use Rattle.script_io.proofs.script.Script.answer.Goals as goal

pub returns-in-Ok-clause-reported : goal.returns-in-Ok-clause-reported
returns-in-Ok-clause-reported c state matches = record {
  number = refl;
  none = c.requires.none;
  reported = c.in-Ok.ensures.reported state matches;
}

pub returns-in-Err-Fault-clause-reported : goal.returns-in-Err-Fault-clause-reported
returns-in-Err-Fault-clause-reported c state matches =
    let reported = rw c.in-Err-Fault.is at (c.answer_line-reported.ensures.reported state matches) in search (rules, reported)

pub returns-in-Err-Memory-clause-reported : goal.returns-in-Err-Memory-clause-reported
returns-in-Err-Memory-clause-reported c state matches =
    let old = c.args.self.now.out in
    cut_back old.items c.answer_line-reported.new.out.items _ c.len-whole.result (c.len-whole.ensures ∙ old.ok.0) c.answer_line-reported.ensures.kept
    c.truncate.ensures.items
