use Rattle.cleaner.proofs.Best.{best_row}
use Rattle.cleaner.proofs.choice.after_row.Goals as goal

pub returns-then-are_within : goal.returns-then-are_within
returns-then-are_within g c =
    best_row (g.R.Ranks.rank c.args.ranks.now) c.args.left_out c.args.row c.args.best.group c.args.best.rank c.row-lanes.result c.row-lanes.ensures
    (c.are_within.ensures.0 c.if-are_within.true) c.requires.best
