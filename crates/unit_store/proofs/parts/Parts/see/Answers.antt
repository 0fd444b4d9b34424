use Rattle.std.proofs.Common.{◌≡◌, Some, rules, sym, ◌∙◌, subst}
use Rattle.flat_machine.specs.Flat.{content_under}
use Rattle.flat_machine.specs.Steps.{Data, Stale}
use Rattle.unit_store.specs.Views.{view_of, SawUnit}
use Rattle.unit_store.proofs.Calls.{following, loses_view, found_gone, saw_data, saw_stale}
use Rattle.unit_store.proofs.parts.Parts.see.Goals as goal

pub returns-in-Err-clause-err : goal.returns-in-Err-clause-err
returns-in-Err-clause-err g c =
    found_gone g.D.Drive.units g.D.Drive.lost g.D.Drive.failures c.args.self.now c.read.new.self c.args.asked.now.place c.in-Err.refusal
    (loses_view g.D.Drive.units g.D.Drive.lost g.D.Drive.failures c.args.self.now c.read.new.self c.read.ensures.only.tables c.read.ensures.fares c.read.ensures.units c.read.ensures.sound)
    c.in-Err.ensures.gone

pub returns-then-ne-clause-ok : goal.returns-then-ne-clause-ok
returns-then-ne-clause-ok g c =
    subst (λ found. SawUnit (view_of g.D.Drive.units g.D.Drive.lost g.D.Drive.failures c.args.self.now) (view_of g.D.Drive.units g.D.Drive.lost g.D.Drive.failures c.read.new.self) c.args.asked.now (Stale found)) (sym c.record-found.ensures)
    (saw_stale g.D.Drive.units g.D.Drive.lost g.D.Drive.failures c.args.self.now c.read.new.self c.args.asked.now c.read.new.unit c.header_in-header.result
    (loses_view g.D.Drive.units g.D.Drive.lost g.D.Drive.failures c.args.self.now c.read.new.self c.read.ensures.only.tables c.read.ensures.fares c.read.ensures.units c.read.ensures.sound)
    c.in_default.ensures.ok c.in_default.ensures.there c.header_in-header.ensures (λ h. let same : c.record-found.result ≡ Some c.args.asked.now = c.record-found.ensures ∙ h in search rules))

pub returns-clause-ok : goal.returns-clause-ok
returns-clause-ok g c =
    let same : c.record-found.result ≡ Some c.args.asked.now = search rules in
    subst (λ k. SawUnit (view_of g.D.Drive.units g.D.Drive.lost g.D.Drive.failures c.args.self.now) (view_of g.D.Drive.units g.D.Drive.lost g.D.Drive.failures c.read.new.self) c.args.asked.now (Data (content_under k c.copy_from_slice.new.self))) (sym c.kind.ensures)
    (saw_data g.D.Drive.units g.D.Drive.lost g.D.Drive.failures c.args.self.now c.read.new.self c.args.asked.now c.read.new.unit c.copy_from_slice.new.self c.header_in-header.result
    (loses_view g.D.Drive.units g.D.Drive.lost g.D.Drive.failures c.args.self.now c.read.new.self c.read.ensures.only.tables c.read.ensures.fares c.read.ensures.units c.read.ensures.sound)
    c.in_default.ensures.ok c.in_default.ensures.there c.header_in-header.ensures (sym c.record-found.ensures ∙ same) (c.copy_from_slice.ensures.after ∙ following c.read.new.unit))
