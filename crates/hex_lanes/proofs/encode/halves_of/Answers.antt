use Rattle.hex_lanes.proofs.Encoded.{halves_are, halves_small}
use Rattle.hex_lanes.proofs.encode.halves_of.Goals as goal

pub returns-clause-value : goal.returns-clause-value
returns-clause-value c = halves_are c.args.bytes c.fits-bytes.0

pub returns-clause-small : goal.returns-clause-small
returns-clause-small c = halves_small c.args.bytes c.fits-bytes.0 c.fits-bytes.1
