use Rattle.extent_groups.proofs.DriveCalls.{keeps_none, keeps_trans}
use Rattle.rotten_units.proofs.compute.copy_group.Goals as goal

pub loop-index-init : goal.loop-index-init
loop-index-init g c = keeps_none c.args.drives.now

pub returns-then-not-copy : goal.returns-then-not-copy
returns-then-not-copy g c = keeps_trans c.loop-index.invariant c.copy.ensures

pub returns-then-not-copy-2 : goal.returns-then-not-copy-2
returns-then-not-copy-2 g c = keeps_trans c.loop-index.invariant (keeps_trans c.copy.ensures c.copy-in-loop-index.ensures)

pub loop-index-preserved : goal.loop-index-preserved
loop-index-preserved g c = keeps_trans c.loop-index.invariant (keeps_trans c.copy.ensures c.copy-in-loop-index.ensures)

pub returns : goal.returns
returns g c = c.loop-index.invariant
