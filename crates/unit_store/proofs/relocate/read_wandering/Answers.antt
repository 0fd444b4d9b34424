use Rattle.unit_store.proofs.Outcomes.{parity_group, parity_outcome}
use Rattle.unit_store.proofs.relocate.read_wandering.Goals as goal

pub read_parity-requires-clause-group : goal.read_parity-requires-clause-group
read_parity-requires-clause-group g c = parity_group c.args.groups.now c.args.at.group c.args.at.member c.args.offset c.args.at.from c.requires.route.member c.requires.role

pub returns-clause-outcome : goal.returns-clause-outcome
returns-clause-outcome g c =
    parity_outcome g.D.Drive.units g.D.Drive.lost c.args.groups.now c.read_parity.new.drives c.args.at.group c.args.at.member c.args.offset c.args.at.from c.read_parity.new.unit c.read_parity.result
    c.requires.route.groups_are c.read_parity.ensures.drives c.requires.route.member c.requires.offset c.requires.role c.read_parity.ensures.reported
