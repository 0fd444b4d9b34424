use Rattle.std.proofs.Common.{refl}
use Rattle.extent_groups.specs.Cells.{cells}
use Rattle.extent_groups.specs.Stores.{AreSound, KeepsUnits}
use Rattle.unit_store.proofs.Reading.{fares_back, reported_back}
use Rattle.unit_store.proofs.parts.Parts.read_headers.Goals as goal

pub returns-clause-fares : goal.returns-clause-fares
returns-clause-fares g c = fares_back c.args.self.now.drives c.deref_mut-drives.result.now c.read_group_headers.new.drives c.deref_mut-drives.ensures.value c.read_group_headers.ensures.leaves.touched

pub returns-clause-units : goal.returns-clause-units
returns-clause-units g c =
    reported_back (λ a b n. AreSound c.args.self.now.groups (cells g.D.Drive.units g.D.Drive.lost a) → KeepsUnits c.args.self.now.groups (cells g.D.Drive.units g.D.Drive.lost a) (cells g.D.Drive.units g.D.Drive.lost b))
    c.args.self.now.drives c.deref_mut-drives.result.now c.read_group_headers.new.drives 0 0 c.deref_mut-drives.ensures.value c.read_group_headers.ensures.leaves.touched.many refl c.read_group_headers.ensures.leaves.units_kept

pub returns-clause-sound : goal.returns-clause-sound
returns-clause-sound g c =
    reported_back (λ a b n. AreSound c.args.self.now.groups (cells g.D.Drive.units g.D.Drive.lost a) → AreSound c.args.self.now.groups (cells g.D.Drive.units g.D.Drive.lost b))
    c.args.self.now.drives c.deref_mut-drives.result.now c.read_group_headers.new.drives 0 0 c.deref_mut-drives.ensures.value c.read_group_headers.ensures.leaves.touched.many refl c.read_group_headers.ensures.leaves.sound
