use Rattle.std.proofs.Common.{inl, refl, sym, subst, ◌∙◌, ◌++◌, ap, drop}
use Rattle.std.specs.Prelude.{ok_or}
use Rattle.extent_groups.specs.Cells.{cells}
use Rattle.extent_groups.specs.Stores.{WroteSlot}
use Rattle.flat_machine.specs.declared.refusal.Refusal.TheVariants.{Gone}
use Rattle.unit_store.specs.Losses.{AllFare}
use Rattle.unit_store.specs.Slots.{IsSlot, cells_in}
use Rattle.unit_store.specs.Views.{view_of, Loses}
use Rattle.unit_store.proofs.Reading.{lent_back, fares_back, holds_reported, slot_reported, reported_back}
use Rattle.unit_store.proofs.parts.Parts.carry.Given as given
use Rattle.unit_store.proofs.parts.Parts.carry.Goals.{After-write_gathered}
use Rattle.std.proofs.lemmas.Result.{on_ok_weaker, IfErr-weaker}
use Rattle.unit_store.proofs.Calls.{following, loses_view, found_gone, was_carried, not_carried}
use Rattle.unit_store.proofs.parts.Parts.carry.Goals as goal

pub returns-in-Err-clause-err : goal.returns-in-Err-clause-err
returns-in-Err-clause-err g c =
    inl (found_gone g.D.Drive.units g.D.Drive.lost g.D.Drive.failures c.args.self.now c.read.new.self c.args.from _
    (loses_view g.D.Drive.units g.D.Drive.lost g.D.Drive.failures c.args.self.now c.read.new.self c.read.ensures.only.tables c.read.ensures.fares c.read.ensures.units c.read.ensures.sound)
    c.in-Err.ensures.gone)

pub returns-clause-ok : goal.returns-clause-ok
returns-clause-ok g c =
    on_ok_weaker c.write.result
    (λ holds. was_carried g.D.Drive.units g.D.Drive.lost g.D.Drive.failures c.args.self.now c.read.new.self c.write.new.self c.args.from c.args.to c.args.header.now c.read.new.unit c.put_header.new.unit
    (loses_view g.D.Drive.units g.D.Drive.lost g.D.Drive.failures c.args.self.now c.read.new.self c.read.ensures.only.tables c.read.ensures.fares c.read.ensures.units c.read.ensures.sound)
    c.in_default.ensures.ok c.in_default.ensures.there c.requires.header c.put_header.ensures c.write.ensures.tables c.write.ensures.drives.fares c.write.ensures.wrote holds.there)
    c.write.ensures.ok

pub returns-clause-err : goal.returns-clause-err
returns-clause-err g c =
    IfErr-weaker c.write.result _ _
    (λ e reports. not_carried g.D.Drive.units g.D.Drive.lost g.D.Drive.failures c.args.self.now c.read.new.self c.write.new.self c.args.from c.args.to c.put_header.new.unit e
    (loses_view g.D.Drive.units g.D.Drive.lost g.D.Drive.failures c.args.self.now c.read.new.self c.read.ensures.only.tables c.read.ensures.fares c.read.ensures.units c.read.ensures.sound)
    c.in_default.ensures.there c.write.ensures.tables c.write.ensures.drives.fares c.write.ensures.wrote reports)
    c.write.ensures.gone

-- what the mirrored store wrote of the drives that it borrowed, as the parts have it
wrote : (g : given.Over) (c : After-write_gathered g)
    → WroteSlot c.read.new.self.groups (cells_in g.D.Drive.units g.D.Drive.lost c.read.new.self) (cells_in g.D.Drive.units g.D.Drive.lost (lent_back c.read.new.self c.write_gathered.new.drives)) c.args.to
    (c.encode-header.result ++ drop 32 c.read.new.unit)
wrote g c =
    reported_back (λ a b n. WroteSlot c.read.new.self.groups (cells g.D.Drive.units g.D.Drive.lost a) (cells g.D.Drive.units g.D.Drive.lost b) c.args.to (c.encode-header.result ++ drop 32 c.read.new.unit))
    c.read.new.self.drives c.deref_mut-drives.result.now c.write_gathered.new.drives 0 0 c.deref_mut-drives.ensures.value c.write_gathered.ensures.touched.many refl
    (subst (λ rest. WroteSlot c.read.new.self.groups (cells g.D.Drive.units g.D.Drive.lost c.deref_mut-drives.result.now) (cells g.D.Drive.units g.D.Drive.lost c.write_gathered.new.drives) c.args.to (c.encode-header.result ++ rest))
    (following c.read.new.unit) c.write_gathered.ensures.wrote)

fares : (g : given.Over) (c : After-write_gathered g) → AllFare g.D.Drive.lost g.D.Drive.failures c.read.new.self.drives.items (lent_back c.read.new.self c.write_gathered.new.drives).drives.items
fares g c = fares_back c.read.new.self.drives c.deref_mut-drives.result.now c.write_gathered.new.drives c.deref_mut-drives.ensures.value c.write_gathered.ensures.touched

loses : (g : given.Over) (c : After-write_gathered g) → Loses (view_of g.D.Drive.units g.D.Drive.lost g.D.Drive.failures c.args.self.now) (view_of g.D.Drive.units g.D.Drive.lost g.D.Drive.failures c.read.new.self)
loses g c = loses_view g.D.Drive.units g.D.Drive.lost g.D.Drive.failures c.args.self.now c.read.new.self c.read.ensures.only.tables c.read.ensures.fares c.read.ensures.units c.read.ensures.sound

pub returns-in-Some-Mirrored-clause-ok : goal.returns-in-Some-Mirrored-clause-ok
returns-in-Some-Mirrored-clause-ok g c =
    let now = (goal.at.returns-in-Some-Mirrored-clause-ok g c).After-write_gathered in
    let back = lent_back c.read.new.self c.write_gathered.new.drives in
    on_ok_weaker c.ok_or.result
    (λ holds. was_carried g.D.Drive.units g.D.Drive.lost g.D.Drive.failures c.args.self.now c.read.new.self back c.args.from c.args.to c.args.header.now c.read.new.unit (c.encode-header.result ++ drop 32 c.read.new.unit)
    (loses g now) c.in_default.ensures.ok c.in_default.ensures.there c.requires.header (ap (λ b. b ++ drop 32 c.read.new.unit) c.encode-header.ensures.bytes)
    (record { shape = refl; groups = refl; extents = refl; note = refl }) (fares g now) (wrote g now) holds.there)
    (holds_reported g.D.Drive.units g.D.Drive.lost c.read.new.self c.deref_mut-drives.result.now c.write_gathered.new.drives c.args.to _ c.write_gathered.result c.ok_or.result
    (c.ok_or.ensures.value ∙ ap (λ o. ok_or o (Gone c.args.to)) c.ok.ensures.value) c.deref_mut-drives.ensures.value c.write_gathered.ensures.touched.many c.read.ensures.fit.groups c.write_gathered.ensures.drives c.write_gathered.ensures.ok)

pub returns-in-Some-Mirrored-clause-err : goal.returns-in-Some-Mirrored-clause-err
returns-in-Some-Mirrored-clause-err g c =
    let now = (goal.at.returns-in-Some-Mirrored-clause-err g c).After-write_gathered in
    let back = lent_back c.read.new.self c.write_gathered.new.drives in
    let is = subst (λ t. IsSlot t c.args.to) (sym c.read.ensures.only.tables.groups) c.requires.to in
    IfErr-weaker c.ok_or.result _ _
    (λ e reports. not_carried g.D.Drive.units g.D.Drive.lost g.D.Drive.failures c.args.self.now c.read.new.self back c.args.from c.args.to (c.encode-header.result ++ drop 32 c.read.new.unit) e (loses g now)
    c.in_default.ensures.there (record { shape = refl; groups = refl; extents = refl; note = refl }) (fares g now) (wrote g now) reports)
    (slot_reported g.D.Drive.units g.D.Drive.lost c.read.new.self c.deref_mut-drives.result.now c.write_gathered.new.drives c.args.to _ c.write_gathered.result c.ok_or.result
    (c.ok_or.ensures.value ∙ ap (λ o. ok_or o (Gone c.args.to)) c.ok.ensures.value) c.deref_mut-drives.ensures.value c.write_gathered.ensures.touched.many is c.read.ensures.fit.groups c.write_gathered.ensures.drives c.write_gathered.ensures.ok c.write_gathered.ensures.gone).gone
