use Rattle.unit_store.proofs.Shifts.{if_shifted, if_not}
use Rattle.unit_store.proofs.parts.Parts.shift.Goals as goal

pub returns-clause-ok : goal.returns-clause-ok
returns-clause-ok g c =
    if_shifted g.D.Drive.units g.D.Drive.lost g.D.Drive.failures c.args.self.now c.swap.new.self c.args.group c.args.member c.args.to c.swap.result c.swap.ensures.ok c.swap.ensures.slots c.swap.ensures.drives.fares
    c.swap.ensures.fit

pub returns-clause-err : goal.returns-clause-err
returns-clause-err g c =
    if_not g.D.Drive.units g.D.Drive.lost g.D.Drive.failures c.args.self.now c.swap.new.self c.args.group c.args.member c.args.to c.swap.result c.swap.ensures.err c.swap.ensures.slots c.swap.ensures.drives.fares
