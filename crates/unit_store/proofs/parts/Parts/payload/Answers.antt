use Rattle.std.proofs.Common.{◌∙◌}
use Rattle.unit_store.proofs.Calls.{following, loses_view, found_gone, was_read}
use Rattle.unit_store.proofs.parts.Parts.payload.Goals as goal

pub returns-in-Err-clause-err : goal.returns-in-Err-clause-err
returns-in-Err-clause-err g c =
    found_gone g.D.Drive.units g.D.Drive.lost g.D.Drive.failures c.args.self.now c.read.new.self c.args.slot c.in-Err.refusal
    (loses_view g.D.Drive.units g.D.Drive.lost g.D.Drive.failures c.args.self.now c.read.new.self c.read.ensures.only.tables c.read.ensures.fares c.read.ensures.units c.read.ensures.sound)
    c.in-Err.ensures.gone

pub returns-clause-ok : goal.returns-clause-ok
returns-clause-ok g c =
    was_read g.D.Drive.units g.D.Drive.lost g.D.Drive.failures c.args.self.now c.read.new.self c.args.slot c.read.new.unit c.copy_from_slice.new.self c.kind_at_front.result
    (loses_view g.D.Drive.units g.D.Drive.lost g.D.Drive.failures c.args.self.now c.read.new.self c.read.ensures.only.tables c.read.ensures.fares c.read.ensures.units c.read.ensures.sound)
    c.in_default.ensures.ok c.in_default.ensures.there (λ u unit. c.kind_at_front.ensures u.header unit.0) (c.copy_from_slice.ensures.after ∙ following c.read.new.unit)
