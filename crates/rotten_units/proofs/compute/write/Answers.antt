use Rattle.std.proofs.Common.{◌<◌, ◌∙◌, length, get_or, ap, arith, subst, sym}
use Rattle.std.specs.Prelude.{not}
use Rattle.std.proofs.lemmas.Option.{slice_get-get_or}
use Rattle.extents.specs.Units.{AreUnitsSized}
use Rattle.extent_groups.proofs.DriveCalls.{is_err-not, keeps_none, keeps_one, kept_write, reported_err, reported_ok}
use Rattle.rotten_units.proofs.Loading.{get_is}
use Rattle.rotten_units.proofs.compute.write.Goals as goal

pub returns-then-number-drives : goal.returns-then-number-drives
returns-then-number-drives g c = keeps_none c.args.drives.now

pub returns-then-address-units : goal.returns-then-address-units
returns-then-address-units g c = keeps_none c.args.drives.now

pub returns-then-unit-unit_bytes : goal.returns-then-unit-unit_bytes
returns-then-unit-unit_bytes g c = keeps_none c.args.drives.now

pub returns : goal.returns
returns g c =
    let inside : c.args.place.drive < length c.args.drives.now = omega arith in
    let there = slice_get-get_or c.args.drives.now c.args.place.drive c.index-drives-number-3.result inside in
    let drive = get_or c.args.drives.now c.args.place.drive c.index-drives-number-3.result in
    let sized : AreUnitsSized (length c.args.unit.now) (g.D.Drive.units drive) =
    subst (λ n. AreUnitsSized n (g.D.Drive.units drive)) (sym c.if-unit-unit_bytes.false)
    (subst (λ d. AreUnitsSized c.unit_bytes.result (g.D.Drive.units d)) (get_is c.args.drives.now c.args.place.drive _ drive there) c.unit_bytes.ensures) in
    keeps_one _ _ _ _ c.args.drives.now c.args.place.drive _ _ inside there
    (kept_write g.D.Drive.units g.D.Drive.lost g.D.Drive.failures c.args.place _ _ c.args.unit.now c.is_ok.result sized
    (record { lost_is = c.write_unit.ensures.lost ∙ is_err-not c.write_unit.result ∙ ap not (sym c.is_ok.ensures.value); stays = c.write_unit.ensures.stays; count = c.write_unit.ensures.count; steady = c.write_unit.ensures.steady })
    (λ e. reported_ok c.write_unit.result c.write_unit.ensures.written (sym c.is_ok.ensures.value ∙ e))
    (λ e. reported_err c.write_unit.result c.write_unit.ensures.unwritten (sym c.is_ok.ensures.value ∙ e)))
