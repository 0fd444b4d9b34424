use Rattle.std.proofs.Common.{◌*◌}
use Rattle.cleaner.specs.Choosing.{IsBestTo}
use Rattle.cleaner.proofs.choice.greatest.Given as goal

abbrev pub invariant-loop-row : goal.invariant-loop-row
invariant-loop-row g l = IsBestTo (g.R.Ranks.rank l.ranks) l.left_out (16 * l.row) l.best.group l.best.rank
