use Rattle.hex_lanes.proofs.Values.{both_seen}
use Rattle.hex_lanes.proofs.decode.greatest_of.Goals as goal

pub returns : goal.returns
returns c = both_seen 16 c.args.first c.args.second c.fits-first.0 c.fits-second.0
