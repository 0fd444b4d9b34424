use Rattle.std.proofs.Common.{◌-◌, length, inl, sym, ap, ◌∙◌, arith}
use Rattle.extents.specs.Header.{header_bytes}
use Rattle.unit_store.specs.Views.{placed_unit}
use Rattle.unit_store.proofs.Calls.{loses_view, found_gone, placed_header, was_copied, not_carried}
use Rattle.unit_store.proofs.parts.Parts.copy_under.Goals as goal

pub returns-in-Err-clause-err : goal.returns-in-Err-clause-err
returns-in-Err-clause-err g c =
    inl (found_gone g.D.Drive.units g.D.Drive.lost g.D.Drive.failures c.args.self.now c.read.new.self c.args.from _
    (loses_view g.D.Drive.units g.D.Drive.lost g.D.Drive.failures c.args.self.now c.read.new.self c.read.ensures.only.tables c.read.ensures.fares c.read.ensures.units c.read.ensures.sound)
    c.in-Err.ensures.gone)

pub returns-in-Ok-clause-ok : goal.returns-in-Ok-clause-ok
returns-in-Ok-clause-ok g c =
    was_copied (placed_unit c.args.stamp) g.D.Drive.units g.D.Drive.lost g.D.Drive.failures c.args.self.now c.read.new.self c.write.new.self c.args.from c.args.to (length c.read.new.unit - 32) c.make_placed-kind.result c.read.new.unit c.make_placed-kind.new.unit
    (loses_view g.D.Drive.units g.D.Drive.lost g.D.Drive.failures c.args.self.now c.read.new.self c.read.ensures.only.tables c.read.ensures.fares c.read.ensures.units c.read.ensures.sound)
    c.in_default.ensures.ok c.in_default.ensures.there (omega (arith, c.read.auto.unit, c.requires.unit)) c.make_placed-kind.ensures.unit
    (c.make_placed-kind.ensures.front ∙ ap header_bytes (placed_header c.args.stamp c.args.self.now.groups.payload c.make_placed-kind.result))
    c.write.ensures.tables c.write.ensures.drives.fares c.write.ensures.wrote c.in-Ok.ensures.ok.there

pub returns-in-Err-write-clause-err : goal.returns-in-Err-write-clause-err
returns-in-Err-write-clause-err g c =
    not_carried g.D.Drive.units g.D.Drive.lost g.D.Drive.failures c.args.self.now c.read.new.self c.write.new.self c.args.from c.args.to c.make_placed-kind.new.unit c.in-Err-write.refusal
    (loses_view g.D.Drive.units g.D.Drive.lost g.D.Drive.failures c.args.self.now c.read.new.self c.read.ensures.only.tables c.read.ensures.fares c.read.ensures.units c.read.ensures.sound)
    c.in_default.ensures.there c.write.ensures.tables c.write.ensures.drives.fares c.write.ensures.wrote c.in-Err-write.ensures.gone
