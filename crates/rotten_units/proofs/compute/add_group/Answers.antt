use Rattle.extent_groups.proofs.DriveCalls.{keeps_none, keeps_trans}
use Rattle.rotten_units.proofs.compute.add_group.Goals as goal

pub loop-member-init : goal.loop-member-init
loop-member-init g c = keeps_none c.args.drives.now

pub loop-offset-init : goal.loop-offset-init
loop-offset-init g c = c.loop-member.invariant

pub returns-then-not-add_others : goal.returns-then-not-add_others
returns-then-not-add_others g c = keeps_trans c.loop-offset.invariant c.add_others.ensures

pub loop-offset-preserved : goal.loop-offset-preserved
loop-offset-preserved g c = keeps_trans c.loop-offset.invariant c.add_others.ensures

pub loop-member-preserved : goal.loop-member-preserved
loop-member-preserved g c = c.loop-offset.invariant

pub returns : goal.returns
returns g c = c.loop-member.invariant
