use Rattle.hex_lanes.proofs.Encoded.{looked_up, places_ok}
use Rattle.hex_lanes.proofs.encode.digits_of.Goals as goal

pub swizzle : goal.swizzle
swizzle c = places_ok c.args.halves c.fits-halves.0 c.requires

pub returns : goal.returns
returns c = looked_up c.args.halves c.fits-halves.0 c.requires
