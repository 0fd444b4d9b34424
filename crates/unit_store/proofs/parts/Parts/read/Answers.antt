use Rattle.std.proofs.Common.{refl, ◌∙◌, ap}
use Rattle.std.specs.Prelude.{ok_or}
use Rattle.extent_groups.specs.Cells.{cells}
use Rattle.extent_groups.specs.Stores.{AreSound, KeepsUnits}
use Rattle.flat_machine.specs.declared.refusal.Refusal.TheVariants.{Gone}
use Rattle.unit_store.proofs.Reading.{SlotReported, lent_back, fares_back, slot_reported, reported_back}
use Rattle.unit_store.proofs.parts.Parts.read.Given as given
use Rattle.unit_store.proofs.parts.Parts.read.Goals as goal
use Rattle.unit_store.proofs.parts.Parts.read.Goals.{After-ok_or}

reported : (g : given.Over) (c : After-ok_or g) → SlotReported g.D.Drive.units g.D.Drive.lost (lent_back c.args.self.now c.read_slot.new.drives) c.args.slot c.ok_or.result
reported g c =
    slot_reported g.D.Drive.units g.D.Drive.lost c.args.self.now c.deref_mut-drives.result.now c.read_slot.new.drives c.args.slot _ c.read_slot.result c.ok_or.result
    (c.ok_or.ensures.value ∙ ap (λ o. ok_or o (Gone c.args.slot)) c.ok.ensures.value) c.deref_mut-drives.ensures.value c.read_slot.ensures.leaves.touched.many c.requires.slot c.requires.fit.groups c.read_slot.ensures.leaves.drives c.read_slot.ensures.ok c.read_slot.ensures.gone

pub returns-clause-there : goal.returns-clause-there
returns-clause-there g c = (reported g (goal.at.returns-clause-there g c).After-ok_or).there

pub returns-clause-gone : goal.returns-clause-gone
returns-clause-gone g c = (reported g (goal.at.returns-clause-gone g c).After-ok_or).gone

pub returns-clause-fares : goal.returns-clause-fares
returns-clause-fares g c = fares_back c.args.self.now.drives c.deref_mut-drives.result.now c.read_slot.new.drives c.deref_mut-drives.ensures.value c.read_slot.ensures.leaves.touched

pub returns-clause-units : goal.returns-clause-units
returns-clause-units g c =
    reported_back (λ a b n. AreSound c.args.self.now.groups (cells g.D.Drive.units g.D.Drive.lost a) → KeepsUnits c.args.self.now.groups (cells g.D.Drive.units g.D.Drive.lost a) (cells g.D.Drive.units g.D.Drive.lost b))
    c.args.self.now.drives c.deref_mut-drives.result.now c.read_slot.new.drives 0 0 c.deref_mut-drives.ensures.value c.read_slot.ensures.leaves.touched.many refl c.read_slot.ensures.leaves.units_kept

pub returns-clause-sound : goal.returns-clause-sound
returns-clause-sound g c =
    reported_back (λ a b n. AreSound c.args.self.now.groups (cells g.D.Drive.units g.D.Drive.lost a) → AreSound c.args.self.now.groups (cells g.D.Drive.units g.D.Drive.lost b))
    c.args.self.now.drives c.deref_mut-drives.result.now c.read_slot.new.drives 0 0 c.deref_mut-drives.ensures.value c.read_slot.ensures.leaves.touched.many refl c.read_slot.ensures.leaves.sound
