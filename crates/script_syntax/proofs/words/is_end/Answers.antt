use Rattle.script_syntax.proofs.Numbers.{nothing_left}
use Rattle.script_syntax.proofs.words.is_end.Goals as goal

pub returns : goal.returns
returns c = nothing_left c.args.text c.is_none.result c.is_none.ensures
