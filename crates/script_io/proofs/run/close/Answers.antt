use Rattle.std.proofs.Common.{◌≡◌, ◌<◌, length, arith, vec_len}
use Rattle.script_io.proofs.Feeds.{closed_answered, not_empty}
use Rattle.script_io.proofs.run.close.Goals as goal

pub returns : goal.returns
returns g c state matches =
    let bytes : 0 < vec_len c.args.script.now.line = not_empty _ c.is_empty.result c.is_empty.ensures c.if-is_empty.false in
    let same : vec_len c.args.script.now.line ≡ length c.args.script.now.line.items = c.args.script.now.line.ok.0 in
    let some : 0 < length c.args.script.now.line.items = omega (arith, bytes, same) in
    c.conclude-2.ensures c.args.script.now state c.requires.written
    (closed_answered c.answer_open-finished.result c.args.script.now state c.answer_open-finished.new.self c.requires.good.open_line some (c.answer_open-finished.ensures.reported state matches))
