use Rattle.std.proofs.Common.{sym, ◌∙◌}
use Rattle.script_exec.specs.Meaning.{IsParsedLine}
use Rattle.script_exec.specs.declared.why.Why.TheVariants as why
use Rattle.script_io.proofs.Lines.{wrong_line, answered_line, refused_line}
use Rattle.script_io.proofs.line.answer_line.Goals as goal

pub returns-then-number-gt-MOST_LINES-clause-reported : goal.returns-then-number-gt-MOST_LINES-clause-reported
returns-then-number-gt-MOST_LINES-clause-reported c state matches =
    wrong_line c.wrong.result c.args.number state c.args.bench.now c.args.line.now _ _ why.Many c.wrong.ensures.reported
    c.if-number-gt-MOST_LINES.true

pub returns-then-line-gt-MOST_BYTES-clause-reported : goal.returns-then-line-gt-MOST_BYTES-clause-reported
returns-then-line-gt-MOST_BYTES-clause-reported c state matches =
    wrong_line c.wrong-then-line-gt-MOST_BYTES.result c.args.number state c.args.bench.now c.args.line.now _ _ why.Long
    c.wrong-then-line-gt-MOST_BYTES.ensures.reported (c.if-number-gt-MOST_LINES.false, c.if-line-gt-MOST_BYTES.true)

pub returns-in_ok-end_line-in-Ok-clause-reported : goal.returns-in_ok-end_line-in-Ok-clause-reported
returns-in_ok-end_line-in-Ok-clause-reported c state matches =
    let counts : IsParsedLine c.args.number c.args.line.now = record {
      soon = c.if-number-gt-MOST_LINES.false;
      short = c.if-line-gt-MOST_BYTES.false;
      said = sym c.is_skipped.ensures ∙ c.if-is_skipped.false;
    } in
    answered_line c.args.number state c.reply.new.bench c.args.line.now _ c.reply.new.out.items _ counts
    (c.in-Ok.ensures.replied state matches) c.in_ok-end_line-in-Ok.ensures.reported

pub returns-in-Err-Wrong-clause-reported : goal.returns-in-Err-Wrong-clause-reported
returns-in-Err-Wrong-clause-reported c state matches =
    let counts : IsParsedLine c.args.number c.args.line.now = record {
      soon = c.if-number-gt-MOST_LINES.false;
      short = c.if-line-gt-MOST_BYTES.false;
      said = sym c.is_skipped.ensures ∙ c.if-is_skipped.false;
    } in
    refused_line c.wrong-in-Err-Wrong.result c.in-Err-Wrong.why c.args.number state c.reply.new.bench c.reply.new.bench
    c.args.line.now _ c.reply.new.out.items _ counts (rw c.in-Err-Wrong.field-0-is at (c.in-Err-Wrong.ensures.replied state matches))
    c.wrong-in-Err-Wrong.ensures.reported
