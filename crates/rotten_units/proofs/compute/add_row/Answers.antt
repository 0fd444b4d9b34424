use Rattle.extent_groups.proofs.DriveCalls.{keeps_none, keeps_trans}
use Rattle.rotten_units.proofs.compute.add_row.Goals as goal

pub loop-member-init : goal.loop-member-init
loop-member-init g c = keeps_none c.args.drives.now

pub returns-then-not-add_unit : goal.returns-then-not-add_unit
returns-then-not-add_unit g c = keeps_trans c.loop-member.invariant c.add_unit.ensures

pub loop-member-preserved : goal.loop-member-preserved
loop-member-preserved g c = keeps_trans c.loop-member.invariant c.add_unit.ensures

pub returns : goal.returns
returns g c = c.loop-member.invariant
