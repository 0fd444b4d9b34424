use Rattle.std.proofs.Common.{refl}
use Rattle.std.proofs.lemmas.Result.{err_from_is_err_and}
use Rattle.extent_groups.specs.Cells.{cells, held}
use Rattle.extent_groups.proofs.DriveCalls.{keeps_none}
use Rattle.extent_groups.proofs.Losses.{kept_fades}
use Rattle.vault.specs.Marks.{Has}
use Rattle.rotten_units.proofs.Writing.{from_none, from_one, was_there, wrote_one}
use Rattle.rotten_units.proofs.write.write_one.Goals as goal

pub returns-in_err-write_unit-clause-wrote : goal.returns-in_err-write_unit-clause-wrote
returns-in_err-write_unit-clause-wrote g c = λ known.
    wrote_one (Has c.args.rotten.now.marks.items) g.V.Vault.seen g.V.Vault.may_leave g.V.Vault.moment g.V.Vault.left_since c.args.vault.now c.write_unit.new.self c.args.place (c.if-not-has.ensures.0 refl)
    (λ stop i left. g.met.V.Vault.only_now c.args.vault.now known stop i left) (c.write_unit.ensures.torn known) (c.write_unit.ensures.time known)

pub returns-clause-wrote : goal.returns-clause-wrote
returns-clause-wrote g c = λ known.
    wrote_one (Has c.args.rotten.now.marks.items) g.V.Vault.seen g.V.Vault.may_leave g.V.Vault.moment g.V.Vault.left_since c.args.vault.now c.write_unit.new.self c.args.place (c.if-not-has.ensures.0 refl)
    (λ stop i left. g.met.V.Vault.only_now c.args.vault.now known stop i left) (c.write_unit.ensures.torn known) (c.write_unit.ensures.time known)

pub returns-then-not-has-clause-units : goal.returns-then-not-has-clause-units
returns-then-not-has-clause-units g c = λ known. from_none g.V.Vault.seen g.V.Vault.attested (Has c.args.rotten.now.marks.items) (cells g.D.Drive.units g.D.Drive.lost c.args.drives.now) c.args.vault.now

pub returns-then-not-read-clause-units : goal.returns-then-not-read-clause-units
returns-then-not-read-clause-units g c = λ known other. from_none g.V.Vault.seen g.V.Vault.attested (Has c.args.rotten.now.marks.items) (cells g.D.Drive.units g.D.Drive.lost c.args.drives.now) c.args.vault.now

pub returns-in_err-write_unit-clause-units : goal.returns-in_err-write_unit-clause-units
returns-in_err-write_unit-clause-units g c = λ known.
    let p = err_from_is_err_and c.from_residual.result c.from_residual.ensures.1 in
    rw (p.1, p.2) (λ never. absurd never)

pub returns-clause-units : goal.returns-clause-units
returns-clause-units g c = λ known.
    from_one g.V.Vault.seen g.V.Vault.attested (Has c.args.rotten.now.marks.items) (cells g.D.Drive.units g.D.Drive.lost c.args.drives.now) c.args.vault.now c.write_unit.new.self c.args.place c.read.new.unit (c.if-not-has.ensures.0 refl)
    (was_there (held (cells g.D.Drive.units g.D.Drive.lost c.read.new.drives) c.args.place) (held (cells g.D.Drive.units g.D.Drive.lost c.args.drives.now) c.args.place) c.read.new.unit
    (kept_fades c.read.ensures.drives c.args.place) (c.if-not-read.ensures.read refl))
    (c.write_unit.ensures.others known) (c.in_ok-write_unit.ensures.written known)

pub returns-then-not-has-clause-drives : goal.returns-then-not-has-clause-drives
returns-then-not-has-clause-drives g c = keeps_none c.args.drives.now
