use Rattle.std.proofs.Common.{refl, sym, subst, ap, ◌∙◌, ◌++◌}
use Rattle.std.specs.Prelude.{ok_or}
use Rattle.std.proofs.lemmas.Result.{on_ok_weaker, IfErr-weaker}
use Rattle.flat_machine.specs.Flat.{Stored}
use Rattle.flat_machine.specs.declared.refusal.Refusal.TheVariants.{Gone}
use Rattle.unit_store.specs.Shows.{IsUnit}
use Rattle.unit_store.proofs.Shows.{unit_of_header}
use Rattle.unit_store.proofs.Calls.{front_of, was_put, wrote_gone}
use Rattle.unit_store.proofs.Reading.{lent_back, fares_back, holds_reported, slot_reported, reported_back}
use Rattle.extent_groups.specs.Cells.{cells}
use Rattle.extent_groups.specs.Stores.{WroteSlot}
use Rattle.unit_store.specs.Losses.{AllFare}
use Rattle.unit_store.specs.Slots.{cells_in}
use Rattle.unit_store.proofs.parts.Parts.put_under.Given as given
use Rattle.unit_store.proofs.parts.Parts.put_under.Goals as goal
use Rattle.unit_store.proofs.parts.Parts.put_under.Goals.{After-write_gathered}

pub returns-clause-ok : goal.returns-clause-ok
returns-clause-ok g c =
    on_ok_weaker c.write.result
    (λ holds. was_put g.D.Drive.units g.D.Drive.lost g.D.Drive.failures c.args.self.now c.write.new.self c.args.slot c.join.new.unit (record { header = c.args.header.now; payload = c.args.payload.now })
    c.write.ensures.tables c.write.ensures.drives.fares c.write.ensures.wrote
    (subst (λ b. IsUnit b (record { header = c.args.header.now; payload = c.args.payload.now })) (sym (c.join.ensures ∙ ap (λ b. b ++ c.args.payload.now) c.encode-header.ensures.bytes)) (unit_of_header c.args.header.now c.args.payload.now c.requires.header))
    (front_of c.args.header.now c.join.new.unit c.args.payload.now (c.join.ensures ∙ ap (λ b. b ++ c.args.payload.now) c.encode-header.ensures.bytes)) holds.there)
    c.write.ensures.ok

pub returns-clause-err : goal.returns-clause-err
returns-clause-err g c =
    IfErr-weaker c.write.result _ _
    (λ e reports. wrote_gone g.D.Drive.units g.D.Drive.lost g.D.Drive.failures c.args.self.now c.write.new.self c.args.slot c.join.new.unit e c.write.ensures.tables c.write.ensures.drives.fares c.write.ensures.wrote reports)
    c.write.ensures.gone

-- what the mirrored store wrote of the drives that it borrowed, as the parts have it
wrote : (g : given.Over) (c : After-write_gathered g)
    → WroteSlot c.args.self.now.groups (cells_in g.D.Drive.units g.D.Drive.lost c.args.self.now) (cells_in g.D.Drive.units g.D.Drive.lost (lent_back c.args.self.now c.write_gathered.new.drives)) c.args.slot
    (c.encode-header.result ++ c.args.payload.now)
wrote g c =
    reported_back (λ a b n. WroteSlot c.args.self.now.groups (cells g.D.Drive.units g.D.Drive.lost a) (cells g.D.Drive.units g.D.Drive.lost b) c.args.slot (c.encode-header.result ++ c.args.payload.now))
    c.args.self.now.drives c.deref_mut-drives.result.now c.write_gathered.new.drives 0 0 c.deref_mut-drives.ensures.value c.write_gathered.ensures.touched.many refl c.write_gathered.ensures.wrote

fares : (g : given.Over) (c : After-write_gathered g) → AllFare g.D.Drive.lost g.D.Drive.failures c.args.self.now.drives.items (lent_back c.args.self.now c.write_gathered.new.drives).drives.items
fares g c = fares_back c.args.self.now.drives c.deref_mut-drives.result.now c.write_gathered.new.drives c.deref_mut-drives.ensures.value c.write_gathered.ensures.touched

pub returns-in-Some-Mirrored-clause-ok : goal.returns-in-Some-Mirrored-clause-ok
returns-in-Some-Mirrored-clause-ok g c =
    let now = (goal.at.returns-in-Some-Mirrored-clause-ok g c).After-write_gathered in
    let unit : Stored = record { header = c.args.header.now; payload = c.args.payload.now } in
    on_ok_weaker c.ok_or.result
    (λ holds. was_put g.D.Drive.units g.D.Drive.lost g.D.Drive.failures c.args.self.now (lent_back c.args.self.now c.write_gathered.new.drives) c.args.slot (c.encode-header.result ++ c.args.payload.now) unit
    (record { shape = refl; groups = refl; extents = refl; note = refl }) (fares g now) (wrote g now)
    (subst (λ b. IsUnit (b ++ c.args.payload.now) unit) (sym c.encode-header.ensures.bytes) (unit_of_header c.args.header.now c.args.payload.now c.requires.header))
    (front_of c.args.header.now (c.encode-header.result ++ c.args.payload.now) c.args.payload.now (ap (λ b. b ++ c.args.payload.now) c.encode-header.ensures.bytes)) holds.there)
    (holds_reported g.D.Drive.units g.D.Drive.lost c.args.self.now c.deref_mut-drives.result.now c.write_gathered.new.drives c.args.slot _ c.write_gathered.result c.ok_or.result
    (c.ok_or.ensures.value ∙ ap (λ o. ok_or o (Gone c.args.slot)) c.ok.ensures.value) c.deref_mut-drives.ensures.value c.write_gathered.ensures.touched.many c.requires.fit.groups c.write_gathered.ensures.drives c.write_gathered.ensures.ok)

pub returns-in-Some-Mirrored-clause-err : goal.returns-in-Some-Mirrored-clause-err
returns-in-Some-Mirrored-clause-err g c =
    let now = (goal.at.returns-in-Some-Mirrored-clause-err g c).After-write_gathered in
    IfErr-weaker c.ok_or.result _ _
    (λ e reports. wrote_gone g.D.Drive.units g.D.Drive.lost g.D.Drive.failures c.args.self.now (lent_back c.args.self.now c.write_gathered.new.drives) c.args.slot (c.encode-header.result ++ c.args.payload.now) e (record { shape = refl; groups = refl; extents = refl; note = refl }) (fares g now) (wrote g now) reports)
    (slot_reported g.D.Drive.units g.D.Drive.lost c.args.self.now c.deref_mut-drives.result.now c.write_gathered.new.drives c.args.slot _ c.write_gathered.result c.ok_or.result
    (c.ok_or.ensures.value ∙ ap (λ o. ok_or o (Gone c.args.slot)) c.ok.ensures.value) c.deref_mut-drives.ensures.value c.write_gathered.ensures.touched.many c.requires.slot c.requires.fit.groups c.write_gathered.ensures.drives c.write_gathered.ensures.ok c.write_gathered.ensures.gone).gone
