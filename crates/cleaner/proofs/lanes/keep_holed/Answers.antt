use Rattle.cleaner.proofs.Rows.{holed_lanes}
use Rattle.cleaner.proofs.lanes.keep_holed.Goals as goal

pub returns : goal.returns
returns c = holed_lanes c.args.counts c.args.slots c.fits-counts.0 c.fits-slots.0
