use Rattle.std.proofs.Common.{inr, refl}
use Rattle.rotten_units.proofs.load.note.Goals as goal

pub returns-then-put-clause-noted : goal.returns-then-put-clause-noted
returns-then-put-clause-noted c = (c.if-put.ensures refl c.args.place).1 (inr refl)
