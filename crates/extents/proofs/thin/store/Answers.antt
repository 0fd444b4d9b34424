use Rattle.extents.proofs.UnitsIn.{written_following}
use Rattle.extents.proofs.thin.store.Goals as goal

pub returns : goal.returns
returns c = rw (c.put-2.ensures, c.put.ensures) (written_following c.args.start c.args.bytes.now c.args.front.now c.args.rest.now c.requires)
