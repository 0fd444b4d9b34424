use Rattle.extent_groups.proofs.DriveCalls.{keeps_none}
use Rattle.rotten_units.proofs.compute.compute_group.Goals as goal

pub returns-in-Some-Mirrored : goal.returns-in-Some-Mirrored
returns-in-Some-Mirrored g c = c.copy_group.ensures

pub returns-in-Some-Parity : goal.returns-in-Some-Parity
returns-in-Some-Parity g c = c.add_group.ensures

pub returns-in-None : goal.returns-in-None
returns-in-None g c = keeps_none c.args.drives.now
