use Rattle.cleaner.proofs.Rows.{parity_lanes}
use Rattle.cleaner.proofs.lanes.keep_parity.Goals as goal

pub returns : goal.returns
returns c = parity_lanes c.args.counts c.args.slots c.fits-counts.0 c.fits-slots.0
