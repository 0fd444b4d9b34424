use Rattle.std.proofs.Common.{ap, ◌∙◌, sym}
use Rattle.std.specs.Prelude.{not, length}
use Rattle.extents.specs.Units.{fronts}
use Rattle.extent_groups.specs.Cells.{front_units}
use Rattle.std.proofs.lemmas.Option.{slice_get-get_or}
use Rattle.extent_groups.proofs.DriveCalls.{reported_ok, is_err-not, did_read, keeps_one, kept_read}
use Rattle.extent_groups.proofs.Places.{get-set_other}
use Rattle.extent_groups.proofs.place.read_front.Goals as goal

pub returns-clause-read : goal.returns-clause-read
returns-clause-read g c =
    let there = slice_get-get_or c.args.drives.now c.args.place.drive c.index-drives-place.result c.requires.inside in
    did_read (front_units (length c.args.front.now) g.D.Drive.units) g.D.Drive.lost g.D.Drive.failures c.args.drives.now c.args.place _ _ c.read_front.new.front c.is_ok.result c.requires.inside there
    (record { lost_is = c.read_front.ensures.lost ∙ is_err-not c.read_front.result ∙ ap not (sym c.is_ok.ensures.value); stays = c.read_front.ensures.stays; count = c.read_front.ensures.count; steady = c.read_front.ensures.steady })
    (ap (fronts (length c.args.front.now)) c.read_front.ensures.units)
    (λ e. reported_ok c.read_front.result c.read_front.ensures.read (sym c.is_ok.ensures.value ∙ e))

pub returns-clause-drives : goal.returns-clause-drives
returns-clause-drives g c =
    let there = slice_get-get_or c.args.drives.now c.args.place.drive c.index-drives-place.result c.requires.inside in
    keeps_one _ _ _ _ c.args.drives.now c.args.place.drive _ _ c.requires.inside there
    (kept_read g.D.Drive.units g.D.Drive.lost g.D.Drive.failures c.args.place _ _ c.is_ok.result
    (record { lost_is = c.read_front.ensures.lost ∙ is_err-not c.read_front.result ∙ ap not (sym c.is_ok.ensures.value); stays = c.read_front.ensures.stays; count = c.read_front.ensures.count; steady = c.read_front.ensures.steady })
    c.read_front.ensures.units)

pub returns-clause-others : goal.returns-clause-others
returns-clause-others g c = λ d other. get-set_other c.args.drives.now c.args.place.drive d _ other
