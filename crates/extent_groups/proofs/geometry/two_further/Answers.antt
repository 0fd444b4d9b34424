use Rattle.std.proofs.Common.{arith}
use Rattle.extent_groups.proofs.Counting.{spot_on, spot_over}
use Rattle.extent_groups.proofs.geometry.two_further.Goals as goal

pub returns-then-member-members : goal.returns-then-member-members
returns-then-member-members c = λ k e. spot_on c.args.members k c.args.at e c.if-member-members.true

pub returns : goal.returns
returns c = λ k e. spot_over c.args.members k c.args.at c.requires.many.0 e (let past = c.if-member-members.false in omega (arith, past))
