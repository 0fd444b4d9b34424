use Rattle.std.proofs.Common.{refl}
use Rattle.extent_groups.proofs.DriveCalls.{keeps_none, keeps_trans}
use Rattle.rotten_units.proofs.Computing.{keeps_at, keeps_not}
use Rattle.rotten_units.proofs.compute.copy.Goals as goal

pub returns-then-not-has : goal.returns-then-not-has
returns-then-not-has g c = keeps_none c.args.drives.now

pub returns-then-not-read : goal.returns-then-not-read
returns-then-not-read g c = keeps_not c.read.ensures.drives

pub returns : goal.returns
returns g c = keeps_trans (keeps_not c.read.ensures.drives) (keeps_at c.args.to (c.if-not-has.ensures.0 refl) c.write.ensures)
