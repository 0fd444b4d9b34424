use Rattle.std.proofs.Common.{◌≡◌, true, length, rules}
use Rattle.extent_groups.specs.Cells.{cells}
use Rattle.extent_groups.specs.Planned.{WroteByPlan}
use Rattle.extent_groups.proofs.LayoutLaw.{layout_law}
use Rattle.extent_groups.proofs.StoreCalls.{site_wrote, sized_cells, drives_kept}
use Rattle.extent_groups.proofs.DriveCalls.{keeps_more}
use Rattle.parity_store.proofs.Laid.{laid}
use Rattle.parity_store.proofs.Carrying.{on_true, plan_drafted}
use Rattle.parity_store.proofs.write.Given as given
use Rattle.parity_store.proofs.write.Goals as goal
use Rattle.parity_store.proofs.write.Goals.{After-write_stripe}

pub write_stripe-requires-clause-target : goal.write_stripe-requires-clause-target
write_stripe-requires-clause-target g c = record { home = c.of_slot-target.ensures.home; laid = laid _ _ _ _ _ _ c.requires.drives c.requires.unit c.of_slot-target.ensures.inside }

pub returns-clause-wrote : goal.returns-clause-wrote
returns-clause-wrote g c =
    site_wrote g.D.Drive.units g.D.Drive.lost c.args.groups.now c.args.slot _ (length c.args.unit.now) c.args.drives.now _ c.args.unit.now c.write_stripe.result c.of_slot-target.ensures.groups c.of_slot-target.ensures.site c.requires.unit c.write_stripe.ensures.ends.unit_is c.write_stripe.ensures.ends.leaves

pub returns-clause-touched : goal.returns-clause-touched
returns-clause-touched g c = keeps_more (λ x own. (_, c.of_slot-target.ensures.site, own)) c.write_stripe.ensures.touched

pub returns-clause-drives : goal.returns-clause-drives
returns-clause-drives g c = drives_kept _ c.write_stripe.ensures.touched c.requires.drives

-- the row was written by a draft, so the slot by a plan
carried : (g : given.Over) (c : After-write_stripe g) → c.write_stripe.result ≡ true
    → WroteByPlan c.args.groups.now (cells g.D.Drive.units g.D.Drive.lost c.args.drives.now) (cells g.D.Drive.units g.D.Drive.lost c.write_stripe.new.drives) c.args.slot c.args.unit.now
carried g c ok =
    plan_drafted c.args.groups.now _ _ c.args.slot _ _ _ c.args.unit.now (layout_law _ c.of_slot-target.ensures.groups) c.of_slot-target.ensures.site c.requires.unit
    (sized_cells g.D.Drive.units g.D.Drive.lost _ _ c.requires.drives) c.of_slot-target.ensures.home.whole
    (on_true _ _ c.write_stripe.result c.write_stripe.ensures.ends.drafted ok)

pub returns-clause-planned : goal.returns-clause-planned
returns-clause-planned g c = let done = carried g (goal.at.returns-clause-planned g c).After-write_stripe in search (rules, done)
