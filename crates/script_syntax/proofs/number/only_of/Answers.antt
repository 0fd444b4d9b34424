use Rattle.std.proofs.Common.{arith}
use Rattle.script_syntax.proofs.Fronts.{only_number}
use Rattle.script_syntax.proofs.number.only_of.Goals as goal

pub returns : goal.returns
returns c = only_number c.args.text.now c.args.count c.front_number.result (omega arith) c.front_number.ensures
