use Rattle.std.proofs.Common.{◌≡◌, ◌/◌, Some, length, subst, arith, rules}
use Rattle.extent_groups.specs.Calls.{if_ok}
use Rattle.extent_groups.specs.Cells.{cells}
use Rattle.extent_groups.specs.Stores.{unit_of}
use Rattle.extent_groups.specs.Units.{InStripe, places_of, site_of}
use Rattle.parity_store.specs.Ways.{row_at}
use Rattle.extent_groups.proofs.Fronts.{slot_front, slot_whole}
use Rattle.extent_groups.proofs.StoreCalls.{drives_kept}
use Rattle.parity_store.proofs.Laid.{readable, found_site, found_few}
use Rattle.parity_store.proofs.Reading.{read_leaves}
use Rattle.parity_store.proofs.read.Given as given
use Rattle.parity_store.proofs.read.Goals as goal
use Rattle.parity_store.proofs.read.Goals.{After-row_among-row, After-read_stripe}

pub read_stripe-requires-clause-readable : goal.read_stripe-requires-clause-readable
read_stripe-requires-clause-readable g c = readable _ _ _ _ _ _ c.requires.drives (omega (arith, c.requires.unit)) (found_few _ _ _ _ (record { formed = c.members-members.ensures.groups; found = c.members-members.ensures.members }) c.row_among-row.ensures.inside)

-- where the slot's unit lies
site : (g : given.Over) (c : After-row_among-row g) → site_of c.args.groups.now c.args.slot
    ≡ Some (InStripe (row_at c.args.groups.now (c.args.slot / 128) c.row_among-row.result.offset) c.row_among-row.result.parity c.row_among-row.result.member)
site g c =
    found_site c.args.groups.now (c.args.slot / 128) c.args.slot c.members-members.result.now c.row_among-row.result (record { formed = c.members-members.ensures.groups; found = c.members-members.ensures.members })
    (subst (λ s. site_of c.args.groups.now s ≡ Some (InStripe (places_of c.args.groups.now.segments c.members-members.result.now c.row_among-row.result.offset) c.row_among-row.result.parity c.row_among-row.result.member)) c.locate_parity-at.ensures.slot c.row_among-row.ensures.site)

found : (g : given.Over) (c : After-read_stripe g)
    → site_of c.args.groups.now c.args.slot ≡ Some (InStripe (row_at c.args.groups.now (c.args.slot / 128) c.row_among-row.result.offset) c.row_among-row.result.parity c.row_among-row.result.member)
    → unit_of c.args.groups.now (cells g.D.Drive.units g.D.Drive.lost c.read_stripe.new.drives) c.args.slot ≡ if_ok c.read_stripe.result c.read_stripe.new.front
found g c at =
    slot_whole g.D.Drive.units g.D.Drive.lost c.read_stripe.new.drives c.args.groups.now c.args.slot (length c.args.unit.now) _ (drives_kept _ c.read_stripe.ensures.touched c.requires.drives) c.requires.unit
    (slot_front g.D.Drive.units g.D.Drive.lost c.read_stripe.new.drives c.args.groups.now c.args.slot _ (length c.args.unit.now) _ at (omega (arith, c.requires.unit)) c.read_stripe.ensures.unit)

pub returns-clause-ok : goal.returns-clause-ok
returns-clause-ok g c = let whole = found g (goal.at.returns-clause-ok g c).After-read_stripe (site g (goal.at.returns-clause-ok g c).After-row_among-row) in search (rules, whole)

pub returns-clause-gone : goal.returns-clause-gone
returns-clause-gone g c = let whole = found g (goal.at.returns-clause-gone g c).After-read_stripe (site g (goal.at.returns-clause-gone g c).After-row_among-row) in search (rules, whole)

pub returns-clause-leaves : goal.returns-clause-leaves
returns-clause-leaves g c = read_leaves _ _ _ _ _ _ _ c.members-members.ensures.groups c.requires.drives c.read_stripe.ensures.touched c.read_stripe.ensures.elsewhere
