use Rattle.std.proofs.Common.{◌<◌, ◌∙◌, length, ap, arith, sym}
use Rattle.std.specs.Prelude.{not}
use Rattle.std.proofs.lemmas.Option.{slice_get-get_or}
use Rattle.extent_groups.specs.Calls.{if_ok}
use Rattle.extent_groups.proofs.DriveCalls.{did_read, is_err-not, keeps_none, keeps_one, kept_read, reported_ok}
use Rattle.rotten_units.proofs.compute.read.Goals as goal

pub returns-then-number-drives-clause-drives : goal.returns-then-number-drives-clause-drives
returns-then-number-drives-clause-drives g c = keeps_none c.args.drives.now

pub returns-then-address-units-clause-drives : goal.returns-then-address-units-clause-drives
returns-then-address-units-clause-drives g c = keeps_none c.args.drives.now

pub returns-then-unit-unit_bytes-clause-drives : goal.returns-then-unit-unit_bytes-clause-drives
returns-then-unit-unit_bytes-clause-drives g c = keeps_none c.args.drives.now

pub returns-clause-read : goal.returns-clause-read
returns-clause-read g c = λ yes.
    let inside : c.args.place.drive < length c.args.drives.now = omega arith in
    let there = slice_get-get_or c.args.drives.now c.args.place.drive c.index-drives-number-3.result inside in
    let did = did_read g.D.Drive.units g.D.Drive.lost g.D.Drive.failures c.args.drives.now c.args.place _ c.read_unit.new.self c.read_unit.new.unit c.is_ok.result inside there
    (record { lost_is = c.read_unit.ensures.lost ∙ is_err-not c.read_unit.result ∙ ap not (sym c.is_ok.ensures.value); stays = c.read_unit.ensures.stays; count = c.read_unit.ensures.count; steady = c.read_unit.ensures.steady })
    c.read_unit.ensures.units
    (λ e. reported_ok c.read_unit.result c.read_unit.ensures.read (sym c.is_ok.ensures.value ∙ e)) in
    did.here ∙ ap (λ b. if_ok b c.read_unit.new.unit) yes

pub returns-clause-drives : goal.returns-clause-drives
returns-clause-drives g c =
    let inside : c.args.place.drive < length c.args.drives.now = omega arith in
    let there = slice_get-get_or c.args.drives.now c.args.place.drive c.index-drives-number-3.result inside in
    keeps_one _ _ _ _ c.args.drives.now c.args.place.drive _ _ inside there
    (kept_read g.D.Drive.units g.D.Drive.lost g.D.Drive.failures c.args.place _ _ c.is_ok.result
    (record { lost_is = c.read_unit.ensures.lost ∙ is_err-not c.read_unit.result ∙ ap not (sym c.is_ok.ensures.value); stays = c.read_unit.ensures.stays; count = c.read_unit.ensures.count; steady = c.read_unit.ensures.steady })
    c.read_unit.ensures.units)
