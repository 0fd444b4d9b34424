use Rattle.hex_lanes.proofs.Values.{bytes_are}
use Rattle.hex_lanes.proofs.decode.join.Goals as goal

pub returns : goal.returns
returns c = bytes_are c.args.values c.fits-values.0 c.requires
