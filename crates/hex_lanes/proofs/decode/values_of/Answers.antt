use Rattle.hex_lanes.proofs.Spelled.{digits_from_values}
use Rattle.hex_lanes.proofs.Values.{digits_have_values, values_mean}
use Rattle.hex_lanes.proofs.decode.values_of.Goals as goal

pub returns-clause-digits : goal.returns-clause-digits
returns-clause-digits c = (
  digits_have_values 16 c.args.digits c.fits-digits.0 c.fits-digits.1,
  λ halves.
      let are = values_mean 16 c.args.digits c.fits-digits.0 c.fits-digits.1 halves in
      digits_from_values c.args.digits (rw are at halves),
)

pub returns-clause-values : goal.returns-clause-values
returns-clause-values c = values_mean 16 c.args.digits c.fits-digits.0 c.fits-digits.1
