use Rattle.std.proofs.Common.{drop}
use Rattle.disk_commands.proofs.Digits.{IsReadTo}
use Rattle.disk_commands.proofs.size.number_in.Given as goal

abbrev pub invariant-loop-at : goal.invariant-loop-at
invariant-loop-at l = IsReadTo l.digits (drop l.at l.digits) l.number
