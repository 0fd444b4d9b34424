use Rattle.std.proofs.Common.{refl, subst}
use Rattle.extent_groups.specs.Calls.{KeepsDrives}
use Rattle.extent_groups.specs.Stores.{IsOwnOf}
use Rattle.unit_store.proofs.Making.{still_fit}
use Rattle.unit_store.proofs.Reading.{written_back}
use Rattle.unit_store.proofs.parts.Parts.write_noted.Goals as goal

pub returns-in-Some-clause-fit : goal.returns-in-Some-clause-fit
returns-in-Some-clause-fit g c =
    still_fit c.args.self.now _ c.finish.new.drives c.requires.fit refl refl refl
    (written_back c.args.self.now.drives c.deref_mut-drives.result.now c.finish.new.drives c.deref_mut-drives.ensures.value c.finish.ensures.touched.many)
    (subst (λ ds. KeepsDrives g.D.Drive.units g.D.Drive.lost g.D.Drive.failures (IsOwnOf c.args.self.now.groups c.in-Some.note.slot) ds c.finish.new.drives) c.deref_mut-drives.ensures.value c.finish.ensures.touched)
