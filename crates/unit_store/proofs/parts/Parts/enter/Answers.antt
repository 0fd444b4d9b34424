use Rattle.std.proofs.Common.{◌∙◌, ap}
use Rattle.std.specs.Prelude.{replicate}
use Rattle.std.proofs.lemmas.Result.{on_ok_weaker, IfErr-weaker}
use Rattle.unit_store.proofs.Entering.{entered, found_lost}
use Rattle.unit_store.proofs.parts.Parts.enter.Goals as goal

pub returns-clause-ok : goal.returns-clause-ok
returns-clause-ok g c =
    on_ok_weaker c.make.result
    (λ is. entered g.D.Drive.units g.D.Drive.lost g.D.Drive.failures c.args.self.now c.make.new.self c.args.group c.args.class c.args.members.items c.clear.new.unit c.requires.free
    (c.clear.ensures ∙ ap (λ n. replicate n 0) c.requires.unit) is.made is.owned is.present c.make.ensures.drives.fares c.make.ensures.fit c.make.ensures.slots.sound c.make.ensures.slots.unchanged is.blank)
    c.make.ensures.ok

pub returns-clause-err : goal.returns-clause-err
returns-clause-err g c =
    IfErr-weaker c.make.result _ _
    (λ e is. found_lost g.D.Drive.units g.D.Drive.lost g.D.Drive.failures c.args.self.now c.make.new.self c.args.group c.args.members.items e c.requires.free
    is.tables c.make.ensures.drives.fares c.make.ensures.slots.sound c.make.ensures.slots.unchanged is.reported)
    c.make.ensures.err
