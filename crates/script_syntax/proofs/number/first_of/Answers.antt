use Rattle.std.proofs.Common.{arith}
use Rattle.script_syntax.proofs.Fronts.{first_number}
use Rattle.script_syntax.proofs.number.first_of.Goals as goal

pub returns : goal.returns
returns c =
    let found = c.in-Some.ensures in (
      found.0,
      first_number c.args.text.now c.args.count c.in-Some.number (omega arith) c.if-text-count-ne-SPACE.false found.0 found.1,
    )
