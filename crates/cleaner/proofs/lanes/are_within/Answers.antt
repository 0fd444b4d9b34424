use Rattle.cleaner.proofs.Rows.{within_seen}
use Rattle.cleaner.proofs.lanes.are_within.Goals as goal

pub returns : goal.returns
returns c = within_seen c.args.rank c.args.lanes c.fits-lanes.0
