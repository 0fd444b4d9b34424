use Rattle.migrator.proofs.Blanks.{lanes_blank, blank_lanes}
use Rattle.migrator.proofs.rows.has_any.Goals as goal

pub returns : goal.returns
returns c = (lanes_blank c.args.lanes c.fits-lanes.0, blank_lanes c.args.lanes c.fits-lanes.0)
