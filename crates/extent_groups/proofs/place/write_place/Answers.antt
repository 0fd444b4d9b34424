use Rattle.std.proofs.Common.{ap, ◌∙◌, sym}
use Rattle.std.specs.Prelude.{not}
use Rattle.std.proofs.lemmas.Option.{slice_get-get_or}
use Rattle.extent_groups.proofs.DriveCalls.{reported_ok, reported_err, is_err-not, did_write, keeps_one, kept_write}
use Rattle.extent_groups.proofs.Places.{get-set_other}
use Rattle.extent_groups.proofs.place.write_place.Goals as goal

pub returns-clause-written : goal.returns-clause-written
returns-clause-written g c =
    let there = slice_get-get_or c.args.drives.now c.args.place.drive c.index-drives-place.result c.requires.inside in
    did_write g.D.Drive.units g.D.Drive.lost g.D.Drive.failures c.args.drives.now c.args.place _ _ c.args.unit.now c.is_ok.result c.requires.inside there
    (c.requires.place.low _ there)
    (record { lost_is = c.write_unit.ensures.lost ∙ is_err-not c.write_unit.result ∙ ap not (sym c.is_ok.ensures.value); stays = c.write_unit.ensures.stays; count = c.write_unit.ensures.count; steady = c.write_unit.ensures.steady })
    (λ e. reported_ok c.write_unit.result c.write_unit.ensures.written (sym c.is_ok.ensures.value ∙ e))

pub returns-clause-drives : goal.returns-clause-drives
returns-clause-drives g c =
    let there = slice_get-get_or c.args.drives.now c.args.place.drive c.index-drives-place.result c.requires.inside in
    keeps_one _ _ _ _ c.args.drives.now c.args.place.drive _ _ c.requires.inside there
    (kept_write g.D.Drive.units g.D.Drive.lost g.D.Drive.failures c.args.place _ _ c.args.unit.now c.is_ok.result
    (c.requires.size _ _ there)
    (record { lost_is = c.write_unit.ensures.lost ∙ is_err-not c.write_unit.result ∙ ap not (sym c.is_ok.ensures.value); stays = c.write_unit.ensures.stays; count = c.write_unit.ensures.count; steady = c.write_unit.ensures.steady })
    (λ e. reported_ok c.write_unit.result c.write_unit.ensures.written (sym c.is_ok.ensures.value ∙ e))
    (λ e. reported_err c.write_unit.result c.write_unit.ensures.unwritten (sym c.is_ok.ensures.value ∙ e)))

pub returns-clause-others : goal.returns-clause-others
returns-clause-others g c = λ d other. get-set_other c.args.drives.now c.args.place.drive d _ other
