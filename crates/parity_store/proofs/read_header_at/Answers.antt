use Rattle.std.proofs.Common.{length, rules}
use Rattle.extent_groups.proofs.Fronts.{slot_front}
use Rattle.parity_store.proofs.Laid.{readable, found_site, found_few}
use Rattle.parity_store.proofs.Reading.{read_leaves}
use Rattle.parity_store.proofs.read_header_at.Goals as goal

pub read_stripe-requires-clause-readable : goal.read_stripe-requires-clause-readable
read_stripe-requires-clause-readable g c = readable _ _ _ _ _ _ c.requires.drives (search rules) (found_few _ _ _ _ c.requires.members c.row_among-row.ensures.inside)

pub returns-clause-header : goal.returns-clause-header
returns-clause-header g c =
    let front = slot_front g.D.Drive.units g.D.Drive.lost c.read_stripe.new.drives c.args.groups.now c.args.at.now.slot _ (length c.args.header.now) _ (found_site _ _ _ _ c.row_among-row.result c.requires.members c.row_among-row.ensures.site) (search rules) c.read_stripe.ensures.unit in
    search (rules, front)

pub returns-clause-leaves : goal.returns-clause-leaves
returns-clause-leaves g c = read_leaves _ _ _ _ _ _ _ c.requires.members.formed c.requires.drives c.read_stripe.ensures.touched c.read_stripe.ensures.elsewhere
