use Rattle.std.proofs.Common.{arith}
use Rattle.vault.specs.Marks.{Has}
use Rattle.rotten_units.proofs.Once.{all_below}
use Rattle.rotten_units.proofs.rows.find_gone.Goals as goal

pub returns : goal.returns
returns c = λ none. all_below (Has c.args.rotten.now.marks.items) c.args.groups.now c.loop-number.number c.members-groups.ensures.groups (omega (arith, c.loop-number-test.false, c.loop-number.auto.number-end)) c.loop-number.invariant
