use Rattle.std.proofs.Common.{refl}
use Rattle.unit_store.proofs.Taking.{IsWithout, taken, was_taken, taken_fit, within_made}
use Rattle.unit_store.proofs.parts.Parts.take.Given as given
use Rattle.unit_store.proofs.parts.Parts.take.Goals as goal
use Rattle.unit_store.proofs.parts.Parts.take.Goals.{After-take_group-taken}

-- the parts that are left have no group of the number
without : (g : given.Over) (c : After-take_group-taken g) → IsWithout c.args.self.now (record c.args.self.now { groups = c.take_group-taken.new.self; extents = c.take_group-taken.new.extents }) c.args.group
without g c =
    let e = c.take_group-taken.ensures in
    taken c.args.self.now _ c.args.group c.take_group-taken.result c.requires.fit.groups c.requires.made refl refl e.taken e.freed e.refused e.agree

pub returns-clause-taken : goal.returns-clause-taken
returns-clause-taken g c =
    was_taken g.D.Drive.units g.D.Drive.lost g.D.Drive.failures c.args.self.now _ c.args.group c.requires.fit (within_made c.args.self.now.groups c.args.group c.requires.made)
    (without g (goal.at.returns-clause-taken g c).After-take_group-taken)

pub returns-clause-fit : goal.returns-clause-fit
returns-clause-fit g c =
    taken_fit g.D.Drive.units g.D.Drive.lost g.D.Drive.failures c.args.self.now _ c.args.group c.requires.fit (within_made c.args.self.now.groups c.args.group c.requires.made)
    (without g (goal.at.returns-clause-fit g c).After-take_group-taken)
