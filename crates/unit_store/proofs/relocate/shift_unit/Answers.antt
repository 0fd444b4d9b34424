use Rattle.std.proofs.Common.{◌≡◌, ◌∙◌, true, None, sym, subst, ap}
use Rattle.extent_groups.specs.declared.place.Place.{Place}
use Rattle.extent_groups.specs.Cells.{cells, held}
use Rattle.extent_groups.specs.Calls.{AreSized, IsPlace, DidWrite, Only, KeepsDrives}
use Rattle.extent_groups.proofs.DriveCalls.{keeps_place, keeps_sizes, keeps_more}
use Rattle.unit_store.proofs.Shifting.{on_target, target_lost, one_touched, one_used, none_written}
use Rattle.unit_store.proofs.relocate.shift_unit.Goals as goal

pub returns-then-not-unit_for-clause-touched : goal.returns-then-not-unit_for-clause-touched
returns-then-not-unit_for-clause-touched g c = keeps_more (λ x never. absurd never) c.unit_for.ensures.touched

pub write_place-requires-clause-inside : goal.write_place-requires-clause-inside
write_place-requires-clause-inside g c =
    (subst (IsPlace g.D.Drive.units c.unit_for.new.drives) (sym c.place_in.ensures) (keeps_place c.unit_for.ensures.touched (c.requires.route.there c.args.offset c.requires.offset))).inside

pub write_place-requires-clause-place : goal.write_place-requires-clause-place
write_place-requires-clause-place g c =
    subst (IsPlace g.D.Drive.units c.unit_for.new.drives) (sym c.place_in.ensures) (keeps_place c.unit_for.ensures.touched (c.requires.route.there c.args.offset c.requires.offset))

pub write_place-requires-clause-size : goal.write_place-requires-clause-size
write_place-requires-clause-size g c =
    subst (λ n. AreSized g.D.Drive.units n c.unit_for.new.drives) (sym c.requires.unit ∙ sym c.unit_for.auto.unit) (keeps_sizes c.unit_for.ensures.touched c.requires.route.drives_are.sized)

pub returns-then-not-write_place-clause-err : goal.returns-then-not-write_place-clause-err
returns-then-not-write_place-clause-err g c =
    target_lost g.D.Drive.units g.D.Drive.lost g.D.Drive.failures c.args.groups.now c.args.at.group c.args.at.member c.args.offset c.args.at.from c.args.at.to c.args.drives.now c.unit_for.new.drives c.write_place.new.drives
    c.requires.route c.requires.offset c.unit_for.ensures.touched
    (subst (λ (p : Place). KeepsDrives g.D.Drive.units g.D.Drive.lost g.D.Drive.failures (Only p) c.unit_for.new.drives c.write_place.new.drives) c.place_in.ensures c.write_place.ensures.drives)
    (subst (λ (p : Place). held (cells g.D.Drive.units g.D.Drive.lost c.write_place.new.drives) p ≡ None) c.place_in.ensures c.if-not-write_place.ensures.written.here)

pub returns-then-not-write_place-clause-touched : goal.returns-then-not-write_place-clause-touched
returns-then-not-write_place-clause-touched g c =
    one_touched g.D.Drive.units g.D.Drive.lost g.D.Drive.failures _ c.args.drives.now c.unit_for.new.drives c.write_place.new.drives c.unit_for.ensures.touched
    (subst (λ (p : Place). KeepsDrives g.D.Drive.units g.D.Drive.lost g.D.Drive.failures (Only p) c.unit_for.new.drives c.write_place.new.drives) c.place_in.ensures c.write_place.ensures.drives)

pub returns-clause-ok : goal.returns-clause-ok
returns-clause-ok g c =
    on_target g.D.Drive.units g.D.Drive.lost g.D.Drive.failures c.args.groups.now c.args.at.group c.args.at.member c.args.offset c.args.at.from c.args.at.to c.args.drives.now c.unit_for.new.drives c.write_place.new.drives
    c.unit_for.new.unit c.requires.route c.unit_for.ensures.touched c.if-not-unit_for.ensures.outcome
    (subst (λ (p : Place). DidWrite (cells g.D.Drive.units g.D.Drive.lost c.unit_for.new.drives) (cells g.D.Drive.units g.D.Drive.lost c.write_place.new.drives) p c.unit_for.new.unit true) c.place_in.ensures
    c.if-not-write_place.ensures.written)
    (subst (λ (p : Place). KeepsDrives g.D.Drive.units g.D.Drive.lost g.D.Drive.failures (Only p) c.unit_for.new.drives c.write_place.new.drives) c.place_in.ensures c.write_place.ensures.drives)

pub returns-clause-touched : goal.returns-clause-touched
returns-clause-touched g c =
    one_touched g.D.Drive.units g.D.Drive.lost g.D.Drive.failures _ c.args.drives.now c.unit_for.new.drives c.write_place.new.drives c.unit_for.ensures.touched
    (subst (λ (p : Place). KeepsDrives g.D.Drive.units g.D.Drive.lost g.D.Drive.failures (Only p) c.unit_for.new.drives c.write_place.new.drives) c.place_in.ensures c.write_place.ensures.drives)

pub returns-then-not-unit_for-clause-elsewhere : goal.returns-then-not-unit_for-clause-elsewhere
returns-then-not-unit_for-clause-elsewhere g c = none_written c.args.groups.now c.args.at.group c.args.at.to c.args.drives.now c.unit_for.new.drives c.unit_for.ensures.elsewhere

pub returns-then-not-write_place-clause-elsewhere : goal.returns-then-not-write_place-clause-elsewhere
returns-then-not-write_place-clause-elsewhere g c =
    one_used c.args.groups.now c.args.at.group c.args.at.to c.place_in.result c.args.drives.now c.unit_for.new.drives c.write_place.new.drives (ap (λ (p : Place). p.drive) c.place_in.ensures)
    c.unit_for.ensures.elsewhere c.write_place.ensures.others

pub returns-clause-elsewhere : goal.returns-clause-elsewhere
returns-clause-elsewhere g c =
    one_used c.args.groups.now c.args.at.group c.args.at.to c.place_in.result c.args.drives.now c.unit_for.new.drives c.write_place.new.drives (ap (λ (p : Place). p.drive) c.place_in.ensures)
    c.unit_for.ensures.elsewhere c.write_place.ensures.others
