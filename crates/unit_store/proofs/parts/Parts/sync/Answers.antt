use Rattle.std.proofs.Common.{refl, sym, subst}
use Rattle.extent_groups.specs.Calls.{NoPlace, KeepsDrives}
use Rattle.extent_groups.specs.Cells.{cells}
use Rattle.extent_groups.specs.Stores.{AreDrives, AreSound, KeepsUnits}
use Rattle.extent_groups.proofs.Losses.{kept_fades}
use Rattle.extent_groups.proofs.StoreCalls.{ReadKeeps, read_keeps}
use Rattle.unit_store.proofs.Making.{still_fit}
use Rattle.unit_store.proofs.Reading.{lent_back, fares_back, reported_back, written_back}
use Rattle.unit_store.proofs.parts.Parts.sync.Given as given
use Rattle.unit_store.proofs.parts.Parts.sync.Goals as goal
use Rattle.unit_store.proofs.parts.Parts.sync.Goals.{After-sync_drives}

kept : (g : given.Over) (c : After-sync_drives g) → AreSound c.args.self.now.groups (cells g.D.Drive.units g.D.Drive.lost c.deref_mut-drives.result.now)
    → ReadKeeps g.D.Drive.units g.D.Drive.lost c.args.self.now.groups c.deref_mut-drives.result.now c.sync_drives.new.drives
kept g c sound =
    let drives = subst (AreDrives g.D.Drive.units c.args.self.now.groups) (sym c.deref_mut-drives.ensures.value) c.requires.fit.drives in
    read_keeps c.args.self.now.groups c.deref_mut-drives.result.now c.sync_drives.new.drives c.requires.fit.groups drives sound (kept_fades c.sync_drives.ensures) c.sync_drives.ensures

pub returns-clause-units : goal.returns-clause-units
returns-clause-units g c =
    let now = (goal.at.returns-clause-units g c).After-sync_drives in
    reported_back (λ a b n. AreSound c.args.self.now.groups (cells g.D.Drive.units g.D.Drive.lost a) → KeepsUnits c.args.self.now.groups (cells g.D.Drive.units g.D.Drive.lost a) (cells g.D.Drive.units g.D.Drive.lost b))
    c.args.self.now.drives c.deref_mut-drives.result.now c.sync_drives.new.drives 0 0 c.deref_mut-drives.ensures.value c.sync_drives.ensures.many refl (λ sound. (kept g now sound).all)

pub returns-clause-sound : goal.returns-clause-sound
returns-clause-sound g c =
    let now = (goal.at.returns-clause-sound g c).After-sync_drives in
    reported_back (λ a b n. AreSound c.args.self.now.groups (cells g.D.Drive.units g.D.Drive.lost a) → AreSound c.args.self.now.groups (cells g.D.Drive.units g.D.Drive.lost b))
    c.args.self.now.drives c.deref_mut-drives.result.now c.sync_drives.new.drives 0 0 c.deref_mut-drives.ensures.value c.sync_drives.ensures.many refl (λ sound. (kept g now sound).sound)

pub returns-clause-fares : goal.returns-clause-fares
returns-clause-fares g c = fares_back c.args.self.now.drives c.deref_mut-drives.result.now c.sync_drives.new.drives c.deref_mut-drives.ensures.value c.sync_drives.ensures

pub returns-clause-only : goal.returns-clause-only
returns-clause-only g c = record {
  tables = record { shape = refl; groups = refl; extents = refl; note = refl };
  drives = reported_back (λ a b n. KeepsDrives g.D.Drive.units g.D.Drive.lost g.D.Drive.failures NoPlace a b)
      c.args.self.now.drives c.deref_mut-drives.result.now c.sync_drives.new.drives 0 0 c.deref_mut-drives.ensures.value c.sync_drives.ensures.many refl c.sync_drives.ensures;
}

pub returns-clause-fit : goal.returns-clause-fit
returns-clause-fit g c =
    let back = lent_back c.args.self.now c.sync_drives.new.drives in
    let keeps = subst (λ ds. KeepsDrives g.D.Drive.units g.D.Drive.lost g.D.Drive.failures NoPlace ds c.sync_drives.new.drives) c.deref_mut-drives.ensures.value c.sync_drives.ensures in
    still_fit c.args.self.now back c.sync_drives.new.drives c.requires.fit refl refl refl
    (written_back c.args.self.now.drives c.deref_mut-drives.result.now c.sync_drives.new.drives c.deref_mut-drives.ensures.value c.sync_drives.ensures.many) keeps
