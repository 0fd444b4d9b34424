use Rattle.std.proofs.Common.{◌≡◌, ◌<◌, true, None, sym, subst, arith}
use Rattle.extents.specs.Sizes.{extent_units}
use Rattle.extent_groups.specs.declared.place.Place.{Place}
use Rattle.extent_groups.specs.Cells.{cells, held}
use Rattle.extent_groups.specs.Calls.{IsPlace, DidWrite, Only, SameBut, KeepsDrives}
use Rattle.extent_groups.proofs.DriveCalls.{keeps_place, keeps_sizes}
use Rattle.extent_groups.proofs.Wiping.{wiped_none, wipe_failed, wipe_touched, wiped_more}
use Rattle.extent_groups.proofs.wipe.wipe_extent.Goals as goal

pub loop-offset-init : goal.loop-offset-init
loop-offset-init g c = wiped_none g.D.Drive.units g.D.Drive.lost g.D.Drive.failures _ c.args.member c.args.zeros.now c.args.drives.now

pub write_place-requires-clause-place : goal.write_place-requires-clause-place
write_place-requires-clause-place g c =
    let low : c.loop-offset.offset < extent_units c.args.shape.now.segments = omega (arith, c.loop-offset-test.true, c.extent_units-offset-end.ensures) in
    subst (IsPlace g.D.Drive.units c.loop-offset.drives) (sym c.place_in.ensures) (keeps_place c.loop-offset.invariant.touched (c.requires.there c.loop-offset.offset low))

pub write_place-requires-clause-size : goal.write_place-requires-clause-size
write_place-requires-clause-size g c = keeps_sizes c.loop-offset.invariant.touched c.requires.size

pub returns-then-not-write_place-clause-lost : goal.returns-then-not-write_place-clause-lost
returns-then-not-write_place-clause-lost g c = λ _.
    let low : c.loop-offset.offset < extent_units c.args.shape.now.segments = omega (arith, c.loop-offset-test.true, c.extent_units-offset-end.ensures) in
    wipe_failed g.D.Drive.units g.D.Drive.lost g.D.Drive.failures c.args.shape.now.segments c.loop-offset.offset c.args.member c.args.zeros.now c.args.drives.now c.loop-offset.drives c.write_place.new.drives
    c.requires.there low c.loop-offset.invariant
    (subst (λ (p : Place). KeepsDrives g.D.Drive.units g.D.Drive.lost g.D.Drive.failures (Only p) c.loop-offset.drives c.write_place.new.drives) c.place_in.ensures c.write_place.ensures.drives)
    (subst (λ (p : Place). held (cells g.D.Drive.units g.D.Drive.lost c.write_place.new.drives) p ≡ None) c.place_in.ensures c.if-not-write_place.ensures.written.here)

pub returns-then-not-write_place-clause-touched : goal.returns-then-not-write_place-clause-touched
returns-then-not-write_place-clause-touched g c =
    let low : c.loop-offset.offset < extent_units c.args.shape.now.segments = omega (arith, c.loop-offset-test.true, c.extent_units-offset-end.ensures) in
    (wipe_touched g.D.Drive.units g.D.Drive.lost g.D.Drive.failures c.args.shape.now.segments c.loop-offset.offset c.args.member c.args.zeros.now c.args.drives.now c.loop-offset.drives c.write_place.new.drives
    low c.loop-offset.invariant
    (subst (λ (p : Place). KeepsDrives g.D.Drive.units g.D.Drive.lost g.D.Drive.failures (Only p) c.loop-offset.drives c.write_place.new.drives) c.place_in.ensures c.write_place.ensures.drives)
    (subst (λ (p : Place). SameBut (λ d. d ≡ p.drive) c.loop-offset.drives c.write_place.new.drives) c.place_in.ensures c.write_place.ensures.others)).touched

pub loop-offset-preserved : goal.loop-offset-preserved
loop-offset-preserved g c =
    let low : c.loop-offset.offset < extent_units c.args.shape.now.segments = omega (arith, c.loop-offset-test.true, c.extent_units-offset-end.ensures) in
    wiped_more g.D.Drive.units g.D.Drive.lost g.D.Drive.failures c.args.shape.now.segments c.loop-offset.offset c.args.member c.args.zeros.now c.args.drives.now c.loop-offset.drives c.write_place.new.drives
    c.requires.there low c.loop-offset.invariant
    (subst (λ (p : Place). DidWrite (cells g.D.Drive.units g.D.Drive.lost c.loop-offset.drives) (cells g.D.Drive.units g.D.Drive.lost c.write_place.new.drives) p c.args.zeros.now true) c.place_in.ensures c.if-not-write_place.ensures.written)
    (subst (λ (p : Place). KeepsDrives g.D.Drive.units g.D.Drive.lost g.D.Drive.failures (Only p) c.loop-offset.drives c.write_place.new.drives) c.place_in.ensures c.write_place.ensures.drives)
    (subst (λ (p : Place). SameBut (λ d. d ≡ p.drive) c.loop-offset.drives c.write_place.new.drives) c.place_in.ensures c.write_place.ensures.others)
