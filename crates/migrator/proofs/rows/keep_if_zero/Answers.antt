use Rattle.migrator.proofs.Blanks.{kept_if_zero}
use Rattle.migrator.proofs.rows.keep_if_zero.Goals as goal

pub returns : goal.returns
returns c = kept_if_zero c.args.counts c.args.slots c.fits-counts.0 c.fits-slots.0
