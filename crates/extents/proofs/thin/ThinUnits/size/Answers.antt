use Rattle.std.proofs.Common.{subst}
use Rattle.extents.specs.Units.{AreUnitsSized}
use Rattle.extents.proofs.Placed.{sized}
use Rattle.extents.proofs.thin.ThinUnits.size.Goals as goal

pub returns : goal.returns
returns c = subst (AreUnitsSized c.self.inside.size) c.self.view_is (sized c.self.invariant)
