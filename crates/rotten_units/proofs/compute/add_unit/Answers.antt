use Rattle.extent_groups.proofs.DriveCalls.{keeps_none}
use Rattle.rotten_units.proofs.compute.add_unit.Goals as goal

pub returns-then-part-sum : goal.returns-then-part-sum
returns-then-part-sum g c = keeps_none c.args.drives.now

pub returns-then-not-read : goal.returns-then-not-read
returns-then-not-read g c = c.read.ensures.drives

pub returns : goal.returns
returns g c = c.read.ensures.drives
