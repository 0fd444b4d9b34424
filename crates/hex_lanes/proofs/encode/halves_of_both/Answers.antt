use Rattle.hex_lanes.proofs.Encoded.{all_halves_small, first_halves_are, second_halves_are}
use Rattle.hex_lanes.proofs.encode.halves_of_both.Goals as goal

pub returns-clause-first : goal.returns-clause-first
returns-clause-first c = first_halves_are c.args.bytes c.fits-bytes.0

pub returns-clause-second : goal.returns-clause-second
returns-clause-second c = second_halves_are c.args.bytes c.fits-bytes.0

pub returns-clause-small : goal.returns-clause-small
returns-clause-small c = all_halves_small c.args.bytes c.fits-bytes.0 c.fits-bytes.1
