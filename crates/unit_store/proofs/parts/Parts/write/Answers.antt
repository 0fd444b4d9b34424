use Rattle.std.proofs.Common.{refl, ◌∙◌, ap}
use Rattle.std.specs.Prelude.{ok_or}
use Rattle.extent_groups.specs.Calls.{KeepsDrives}
use Rattle.extent_groups.specs.Stores.{IsOwnOf}
use Rattle.flat_machine.specs.declared.refusal.Refusal.TheVariants.{Gone}
use Rattle.unit_store.proofs.Reading.{fares_back, holds_reported, slot_reported, reported_back}
use Rattle.unit_store.proofs.parts.Parts.write.Goals as goal

pub returns-in-Some-Mirrored-clause-ok : goal.returns-in-Some-Mirrored-clause-ok
returns-in-Some-Mirrored-clause-ok g c =
    holds_reported g.D.Drive.units g.D.Drive.lost c.args.self.now c.deref_mut-drives.result.now c.write.new.drives c.args.slot _ c.write.result c.ok_or.result
    (c.ok_or.ensures.value ∙ ap (λ o. ok_or o (Gone c.args.slot)) c.ok.ensures.value) c.deref_mut-drives.ensures.value c.write.ensures.touched.many c.requires.fit.groups c.write.ensures.drives c.write.ensures.ok

pub returns-in-Some-Mirrored-clause-gone : goal.returns-in-Some-Mirrored-clause-gone
returns-in-Some-Mirrored-clause-gone g c =
    (slot_reported g.D.Drive.units g.D.Drive.lost c.args.self.now c.deref_mut-drives.result.now c.write.new.drives c.args.slot _ c.write.result c.ok_or.result
    (c.ok_or.ensures.value ∙ ap (λ o. ok_or o (Gone c.args.slot)) c.ok.ensures.value) c.deref_mut-drives.ensures.value c.write.ensures.touched.many c.requires.slot c.requires.fit.groups c.write.ensures.drives c.write.ensures.ok c.write.ensures.gone).gone

pub returns-in-Some-Mirrored-clause-drives : goal.returns-in-Some-Mirrored-clause-drives
returns-in-Some-Mirrored-clause-drives g c = record {
  touched = reported_back (λ a b n. KeepsDrives g.D.Drive.units g.D.Drive.lost g.D.Drive.failures (IsOwnOf c.args.self.now.groups c.args.slot) a b)
      c.args.self.now.drives c.deref_mut-drives.result.now c.write.new.drives 0 0 c.deref_mut-drives.ensures.value c.write.ensures.touched.many refl c.write.ensures.touched;
  fares = fares_back c.args.self.now.drives c.deref_mut-drives.result.now c.write.new.drives c.deref_mut-drives.ensures.value c.write.ensures.touched;
}

pub returns-clause-ok : goal.returns-clause-ok
returns-clause-ok g c =
    holds_reported g.D.Drive.units g.D.Drive.lost c.args.self.now c.deref_mut-drives.result.now c.write-2.new.drives c.args.slot _ c.write-2.result c.ok_or-2.result
    (c.ok_or-2.ensures.value ∙ ap (λ o. ok_or o (Gone c.args.slot)) c.ok-2.ensures.value) c.deref_mut-drives.ensures.value c.write-2.ensures.touched.many c.requires.fit.groups c.write-2.ensures.drives c.write-2.ensures.ok

pub returns-clause-gone : goal.returns-clause-gone
returns-clause-gone g c =
    (slot_reported g.D.Drive.units g.D.Drive.lost c.args.self.now c.deref_mut-drives.result.now c.write-2.new.drives c.args.slot _ c.write-2.result c.ok_or-2.result
    (c.ok_or-2.ensures.value ∙ ap (λ o. ok_or o (Gone c.args.slot)) c.ok-2.ensures.value) c.deref_mut-drives.ensures.value c.write-2.ensures.touched.many c.requires.slot c.requires.fit.groups c.write-2.ensures.drives c.write-2.ensures.ok c.write-2.ensures.gone).gone

pub returns-clause-drives : goal.returns-clause-drives
returns-clause-drives g c = record {
  touched = reported_back (λ a b n. KeepsDrives g.D.Drive.units g.D.Drive.lost g.D.Drive.failures (IsOwnOf c.args.self.now.groups c.args.slot) a b)
      c.args.self.now.drives c.deref_mut-drives.result.now c.write-2.new.drives 0 0 c.deref_mut-drives.ensures.value c.write-2.ensures.touched.many refl c.write-2.ensures.touched;
  fares = fares_back c.args.self.now.drives c.deref_mut-drives.result.now c.write-2.new.drives c.deref_mut-drives.ensures.value c.write-2.ensures.touched;
}
