use Rattle.cleaner.proofs.Rows.{few_lanes}
use Rattle.cleaner.proofs.lanes.keep_up_to.Goals as goal

pub returns : goal.returns
returns c = few_lanes c.args.counts c.args.most c.fits-counts.0
