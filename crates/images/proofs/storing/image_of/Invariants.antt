use Rattle.std.proofs.Common.{◌≡◌, length, false}
use Rattle.images.specs.Images.{AreStored}
use Rattle.images.proofs.storing.image_of.Given as goal

abbrev pub invariant-loop-at : goal.invariant-loop-at
invariant-loop-at g l = AreStored l.size l.at l.image.items (g.D.Drive.units l.drive) × (g.D.Drive.units l.drive ≡ g.D.Drive.units l.fn.drive) × (g.D.Drive.lost l.drive ≡ false) × (length l.unit.items ≡ l.size)
