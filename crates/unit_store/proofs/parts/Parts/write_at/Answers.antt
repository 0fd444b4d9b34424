use Rattle.std.proofs.Common.{◌≡◌, ◌<◌, length, refl, sym, subst}
use Rattle.std.specs.Vec.{with_items}
use Rattle.extent_groups.specs.Calls.{AreSized, DidWrite, IsPlace, KeepsDrives, Only}
use Rattle.extent_groups.specs.Cells.{cells}
use Rattle.unit_store.proofs.Making.{still_fit}
use Rattle.unit_store.proofs.Reading.{written_back}
use Rattle.unit_store.proofs.parts.Parts.write_at.Given as given
use Rattle.unit_store.proofs.parts.Parts.write_at.Goals as goal
use Rattle.unit_store.proofs.parts.Parts.write_at.Goals.{After-write_place}

pub write_place-requires-clause-inside : goal.write_place-requires-clause-inside
write_place-requires-clause-inside g c = subst (λ ds. c.args.place.drive < length ds) (sym c.deref_mut-drives.ensures.value) c.requires.place.inside

pub write_place-requires-clause-place : goal.write_place-requires-clause-place
write_place-requires-clause-place g c = subst (λ ds. IsPlace g.D.Drive.units ds c.args.place) (sym c.deref_mut-drives.ensures.value) c.requires.place

pub write_place-requires-clause-size : goal.write_place-requires-clause-size
write_place-requires-clause-size g c =
    subst (λ ds. AreSized g.D.Drive.units (length c.args.unit.now) ds) (sym c.deref_mut-drives.ensures.value)
    (subst (λ n. AreSized g.D.Drive.units n c.args.self.now.drives.items) (sym c.requires.unit) c.requires.fit.drives.sized)

-- what the call leaves of the drives, as those of the parts
touched : (g : given.Over) (c : After-write_place g)
    → KeepsDrives g.D.Drive.units g.D.Drive.lost g.D.Drive.failures (Only c.args.place) c.args.self.now.drives.items c.write_place.new.drives
touched g c =
    subst (λ ds. KeepsDrives g.D.Drive.units g.D.Drive.lost g.D.Drive.failures (Only c.args.place) ds c.write_place.new.drives) c.deref_mut-drives.ensures.value c.write_place.ensures.drives

back : (g : given.Over) (c : After-write_place g) → (with_items c.args.self.now.drives c.write_place.new.drives).items ≡ c.write_place.new.drives
back g c = written_back c.args.self.now.drives c.deref_mut-drives.result.now c.write_place.new.drives c.deref_mut-drives.ensures.value c.write_place.ensures.drives.many

pub returns-clause-written : goal.returns-clause-written
returns-clause-written g c =
    let a = (goal.at.returns-clause-written g c).After-write_place in
    subst (λ ds. DidWrite (cells g.D.Drive.units g.D.Drive.lost c.args.self.now.drives.items) (cells g.D.Drive.units g.D.Drive.lost ds) c.args.place c.args.unit.now c.write_place.result) (sym (back g a))
    (subst (λ ds. DidWrite (cells g.D.Drive.units g.D.Drive.lost ds) (cells g.D.Drive.units g.D.Drive.lost c.write_place.new.drives) c.args.place c.args.unit.now c.write_place.result) c.deref_mut-drives.ensures.value c.write_place.ensures.written)

pub returns-clause-touched : goal.returns-clause-touched
returns-clause-touched g c =
    let a = (goal.at.returns-clause-touched g c).After-write_place in
    subst (λ ds. KeepsDrives g.D.Drive.units g.D.Drive.lost g.D.Drive.failures (Only c.args.place) c.args.self.now.drives.items ds) (sym (back g a)) (touched g a)

pub returns-clause-fit : goal.returns-clause-fit
returns-clause-fit g c =
    let a = (goal.at.returns-clause-fit g c).After-write_place in
    still_fit c.args.self.now _ c.write_place.new.drives c.requires.fit refl refl refl (back g a) (touched g a)
