use Rattle.std.proofs.Common.{◌<◌, arith}
use Rattle.extents.specs.Sizes.{extent_units}
use Rattle.extent_groups.proofs.Elsewhere.{same_trans}
use Rattle.unit_store.proofs.Shifting.{route_kept, more_in, more_on_target}
use Rattle.unit_store.proofs.relocate.shift_units.Goals as goal

pub shift_unit-requires-clause-route : goal.shift_unit-requires-clause-route
shift_unit-requires-clause-route g c =
    route_kept c.args.groups.now c.args.at.group c.args.at.member c.args.at.from c.args.at.to c.args.drives.now c.loop-offset.drives c.loop-offset.invariant.touched c.requires.route

pub returns-in-Err-clause-touched : goal.returns-in-Err-clause-touched
returns-in-Err-clause-touched g c =
    let low : c.loop-offset.offset < extent_units c.args.groups.now.segments = omega (arith, c.loop-offset-test.true, c.extent_units-offset-end.ensures, c.shape-shape.ensures.of_segments) in
    more_in g.D.Drive.units g.D.Drive.lost g.D.Drive.failures c.args.groups.now.segments c.loop-offset.offset c.args.at.to c.args.drives.now c.loop-offset.drives c.shift_unit.new.drives low
    c.loop-offset.invariant.touched c.shift_unit.ensures.touched

pub returns-in-Err-clause-elsewhere : goal.returns-in-Err-clause-elsewhere
returns-in-Err-clause-elsewhere g c =
    same_trans c.args.drives.now c.loop-offset.drives c.shift_unit.new.drives c.loop-offset.invariant.elsewhere c.shift_unit.ensures.elsewhere

pub loop-offset-preserved : goal.loop-offset-preserved
loop-offset-preserved g c =
    let low : c.loop-offset.offset < extent_units c.args.groups.now.segments = omega (arith, c.loop-offset-test.true, c.extent_units-offset-end.ensures, c.shape-shape.ensures.of_segments) in
    more_on_target g.D.Drive.units g.D.Drive.lost g.D.Drive.failures c.args.groups.now c.args.at.group c.args.at.member c.loop-offset.offset c.args.at.from c.args.at.to c.args.drives.now c.loop-offset.drives
    c.shift_unit.new.drives c.requires.route low c.loop-offset.invariant c.in_default.ensures.ok c.shift_unit.ensures.touched c.shift_unit.ensures.elsewhere
