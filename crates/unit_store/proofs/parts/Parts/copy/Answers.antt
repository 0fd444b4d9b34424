use Rattle.std.proofs.Common.{◌-◌, length, inl, arith}
use Rattle.flat_machine.specs.Flat.{waiting_unit}
use Rattle.unit_store.proofs.Calls.{loses_view, found_gone, was_copied, not_carried}
use Rattle.unit_store.proofs.parts.Parts.copy.Goals as goal

pub returns-in-Err-clause-err : goal.returns-in-Err-clause-err
returns-in-Err-clause-err g c =
    inl (found_gone g.D.Drive.units g.D.Drive.lost g.D.Drive.failures c.args.self.now c.read.new.self c.args.from _
    (loses_view g.D.Drive.units g.D.Drive.lost g.D.Drive.failures c.args.self.now c.read.new.self c.read.ensures.only.tables c.read.ensures.fares c.read.ensures.units c.read.ensures.sound)
    c.in-Err.ensures.gone)

pub returns-in-Ok-clause-ok : goal.returns-in-Ok-clause-ok
returns-in-Ok-clause-ok g c =
    was_copied waiting_unit g.D.Drive.units g.D.Drive.lost g.D.Drive.failures c.args.self.now c.read.new.self c.write.new.self c.args.from c.args.to (length c.read.new.unit - 32) c.make_wait-kind.result c.read.new.unit c.make_wait-kind.new.unit
    (loses_view g.D.Drive.units g.D.Drive.lost g.D.Drive.failures c.args.self.now c.read.new.self c.read.ensures.only.tables c.read.ensures.fares c.read.ensures.units c.read.ensures.sound)
    c.in_default.ensures.ok c.in_default.ensures.there (omega (arith, c.read.auto.unit, c.requires.unit)) c.make_wait-kind.ensures.unit c.make_wait-kind.ensures.front
    c.write.ensures.tables c.write.ensures.drives.fares c.write.ensures.wrote c.in-Ok.ensures.ok.there

pub returns-in-Err-write-clause-err : goal.returns-in-Err-write-clause-err
returns-in-Err-write-clause-err g c =
    not_carried g.D.Drive.units g.D.Drive.lost g.D.Drive.failures c.args.self.now c.read.new.self c.write.new.self c.args.from c.args.to c.make_wait-kind.new.unit c.in-Err-write.refusal
    (loses_view g.D.Drive.units g.D.Drive.lost g.D.Drive.failures c.args.self.now c.read.new.self c.read.ensures.only.tables c.read.ensures.fares c.read.ensures.units c.read.ensures.sound)
    c.in_default.ensures.there c.write.ensures.tables c.write.ensures.drives.fares c.write.ensures.wrote c.in-Err-write.ensures.gone
