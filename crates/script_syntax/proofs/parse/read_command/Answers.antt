use Rattle.script_syntax.proofs.Spellings.{read_result}
use Rattle.script_syntax.proofs.parse.read_command.Goals as goal

pub returns : goal.returns
returns c =
    read_result c.in-Some.verb _ c.args.line.now c.cut.result.0.now _ _ c.follow.new.command c.follow.result c.cut.ensures c.in-Some.ensures.some
    c.follow.ensures
