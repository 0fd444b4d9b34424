use Rattle.std.proofs.Common.{◌<◌, ◌+◌, length, arith}
use Rattle.script_exec.specs.declared.why.Why.TheVariants as why
use Rattle.script_io.proofs.Feeds.{open_more, stopped_front, too_long}
use Rattle.script_io.proofs.script.Script.take_in.Goals as goal

pub returns-then-self-gt-MOST_LINES-clause-fed : goal.returns-then-self-gt-MOST_LINES-clause-fed
returns-then-self-gt-MOST_LINES-clause-fed c state matches =
    let some : 0 < length c.args.part.now = grind arith in
    stopped_front c.report_fault.result c.args.self.now state _ c.args.part.now why.Many
    (open_more c.args.self.now.line.items c.args.part.now c.requires.good.open_line c.requires.part) some
    (λ more. c.if-self-gt-MOST_LINES.true) c.report_fault.ensures

pub returns-then-part-len-clause-fed : goal.returns-then-part-len-clause-fed
returns-then-part-len-clause-fed c state matches =
    let some : 0 < length c.args.part.now = grind arith in
    let long : 131200 < length c.args.self.now.line.items + length c.args.part.now = grind arith in
    stopped_front c.report_fault-then-part-len.result c.args.self.now state _ c.args.part.now why.Long
    (open_more c.args.self.now.line.items c.args.part.now c.requires.good.open_line c.requires.part) some
    (λ more. (c.if-self-gt-MOST_LINES.false, too_long c.args.self.now.line.items c.args.part.now more long))
    c.report_fault-then-part-len.ensures
