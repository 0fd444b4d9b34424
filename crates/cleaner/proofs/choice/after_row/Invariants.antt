use Rattle.std.proofs.Common.{◌*◌, ◌+◌}
use Rattle.cleaner.specs.Choosing.{IsBestTo}
use Rattle.cleaner.proofs.choice.after_row.Given as goal

abbrev pub invariant-loop-lane : goal.invariant-loop-lane
invariant-loop-lane g l = IsBestTo (g.R.Ranks.rank l.ranks) l.left_out (16 * l.row + l.lane) l.best.group l.best.rank
