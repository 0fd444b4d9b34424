use Rattle.extent_groups.proofs.DriveCalls.{keeps_none, keeps_trans}
use Rattle.rotten_units.proofs.compute.compute_rotten.Goals as goal

pub loop-group-init : goal.loop-group-init
loop-group-init g c = keeps_none c.args.drives.now

pub returns-then-not-compute_group : goal.returns-then-not-compute_group
returns-then-not-compute_group g c = keeps_trans c.loop-group.invariant c.compute_group.ensures

pub loop-group-preserved : goal.loop-group-preserved
loop-group-preserved g c = keeps_trans c.loop-group.invariant c.compute_group.ensures

pub returns : goal.returns
returns g c = c.loop-group.invariant
