use Rattle.std.proofs.Common.{◌≡◌}
use Rattle.extents.specs.declared.mem_drive.Condition.TheVariants.{Present}
use Rattle.images.specs.Images.{AreLoaded}
use Rattle.images.proofs.loading.load.Given as goal

abbrev pub invariant-loop-at : goal.invariant-loop-at
invariant-loop-at l = AreLoaded l.size l.count l.at l.image l.drive.units × (l.drive.condition ≡ Present)
