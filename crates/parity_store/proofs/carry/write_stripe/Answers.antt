use Rattle.std.proofs.Common.{◌≡◌, ◌≢◌, ◌∙◌, true, false, length, refl, subst, rules}
use Rattle.std.proofs.lemmas.Bool.{true≢false}
use Rattle.extent_groups.specs.Cells.{cells}
use Rattle.extent_groups.specs.Calls.{KeepsDrives}
use Rattle.extent_groups.specs.Stores.{IsOwn}
use Rattle.extent_groups.proofs.DriveCalls.{keeps_trans, keeps_more, keeps_place, keeps_sizes, cells_sized}
use Rattle.extent_groups.proofs.Losses.{kept_fades}
use Rattle.extent_groups.proofs.SlotWrites.{AreSizedCells}
use Rattle.parity_store.specs.declared.way.Way.TheVariants as way
use Rattle.parity_store.specs.Targets.{row_to, site_to}
use Rattle.parity_store.specs.Drafts.{Tried}
use Rattle.parity_store.proofs.Carrying.{once_end, again_end}
use Rattle.parity_store.proofs.Laid.{still_laid}
use Rattle.parity_store.proofs.Stripes.{own_pair}
use Rattle.parity_store.proofs.carry.write_stripe.Given as given
use Rattle.parity_store.proofs.carry.write_stripe.Goals as goal
use Rattle.parity_store.proofs.carry.write_stripe.Goals.{After-write_way-done}

pub write_way-done-requires-clause-home : goal.write_way-done-requires-clause-home
write_way-done-requires-clause-home g c = keeps_place c.find_way-way.ensures.touched (c.requires.target.laid.row c.args.target.now.at.member c.args.target.now.home c.requires.target.home.home_is)

pub write_way-done-requires-clause-parity : goal.write_way-done-requires-clause-parity
write_way-done-requires-clause-parity g c = keeps_place c.find_way-way.ensures.touched (c.requires.target.laid.row c.args.target.now.at.parity c.args.target.now.parity c.requires.target.home.parity_is)

pub write_way-done-requires-clause-size : goal.write_way-done-requires-clause-size
write_way-done-requires-clause-size g c = keeps_sizes c.find_way-way.ensures.touched c.requires.target.laid.size

-- what was drafted and written
tried : (g : given.Over) (c : After-write_way-done g)
    → Tried c.args.groups.now (cells g.D.Drive.units g.D.Drive.lost c.args.drives.now) (cells g.D.Drive.units g.D.Drive.lost c.write_way-done.new.drives) c.args.target.now c.args.unit.now c.find_way-way.result c.write_way-done.result
tried g c = record {
  mid = _;
  sum = c.find_way-way.new.sum;
  sized = c.find_way-way.auto.sum ∙ c.requires.sum;
  read = kept_fades c.find_way-way.ensures.touched;
  draft = c.find_way-way.ensures.draft;
  carried = c.write_way-done.ensures.carried;
}

sized : (g : given.Over) (c : After-write_way-done g) → AreSizedCells (length c.args.unit.now) (cells g.D.Drive.units g.D.Drive.lost c.args.drives.now)
sized g c = cells_sized g.D.Drive.units g.D.Drive.lost (length c.args.unit.now) c.args.drives.now c.requires.target.laid.size

-- the first try touches the stripe's own two places
own : (g : given.Over) (c : After-write_way-done g)
    → KeepsDrives g.D.Drive.units g.D.Drive.lost g.D.Drive.failures (IsOwn (site_to c.args.groups.now c.args.target.now)) c.args.drives.now c.write_way-done.new.drives
own g c =
    keeps_more (own_pair (row_to c.args.groups.now c.args.target.now) c.args.target.now.at.parity c.args.target.now.at.member _ _ c.requires.target.home.home_is c.requires.target.home.parity_is) (keeps_trans (keeps_more (λ x never. absurd never) c.find_way-way.ensures.touched) c.write_way-done.ensures.touched)

pub returns-then-done-clause-ends : goal.returns-then-done-clause-ends
returns-then-done-clause-ends g c =
    let here = (goal.at.returns-then-done-clause-ends g c).After-write_way-done in
    let done : c.write_way-done.result ≡ true = search rules in
    once_end c.args.groups.now c.args.target.now c.args.unit.now c.requires.target.home (cells g.D.Drive.units g.D.Drive.lost c.args.drives.now) (cells g.D.Drive.units g.D.Drive.lost c.write_way-done.new.drives) c.find_way-way.result true (sized g here)
    (subst (Tried c.args.groups.now (cells g.D.Drive.units g.D.Drive.lost c.args.drives.now) (cells g.D.Drive.units g.D.Drive.lost c.write_way-done.new.drives) c.args.target.now c.args.unit.now c.find_way-way.result) done (tried g here))
    (λ e. absurd (true≢false e))

pub returns-then-done-clause-touched : goal.returns-then-done-clause-touched
returns-then-done-clause-touched g c = own g (goal.at.returns-then-done-clause-touched g c).After-write_way-done

pub returns-then-ne-clause-ends : goal.returns-then-ne-clause-ends
returns-then-ne-clause-ends g c =
    let here = (goal.at.returns-then-ne-clause-ends g c).After-write_way-done in
    let failed : c.write_way-done.result ≡ false = search rules in
    let other : c.find_way-way.result ≢ way.Both = search rules in
    once_end c.args.groups.now c.args.target.now c.args.unit.now c.requires.target.home (cells g.D.Drive.units g.D.Drive.lost c.args.drives.now) (cells g.D.Drive.units g.D.Drive.lost c.write_way-done.new.drives) c.find_way-way.result false (sized g here)
    (subst (Tried c.args.groups.now (cells g.D.Drive.units g.D.Drive.lost c.args.drives.now) (cells g.D.Drive.units g.D.Drive.lost c.write_way-done.new.drives) c.args.target.now c.args.unit.now c.find_way-way.result) failed (tried g here))
    (λ e. other)

pub returns-then-ne-clause-touched : goal.returns-then-ne-clause-touched
returns-then-ne-clause-touched g c = own g (goal.at.returns-then-ne-clause-touched g c).After-write_way-done

pub write_again-requires-clause-target : goal.write_again-requires-clause-target
write_again-requires-clause-target g c = record { home = c.requires.target.home; laid = still_laid (keeps_trans (keeps_more (λ x never. absurd never) c.find_way-way.ensures.touched) c.write_way-done.ensures.touched) refl c.requires.target.laid }

pub returns-clause-ends : goal.returns-clause-ends
returns-clause-ends g c =
    let here = (goal.at.returns-clause-ends g c).After-write_way-done in
    let old = cells g.D.Drive.units g.D.Drive.lost c.args.drives.now in
    let mid = cells g.D.Drive.units g.D.Drive.lost c.write_way-done.new.drives in
    let both : c.find_way-way.result ≡ way.Both = search rules in
    let failed : c.write_way-done.result ≡ false = search rules in
    let again = c.write_again.ensures.tried in
    again_end c.args.groups.now c.args.target.now c.args.unit.now c.requires.target.home old mid (cells g.D.Drive.units g.D.Drive.lost c.write_again.new.drives) again.0 c.write_again.result (sized g here)
    (subst (λ w. Tried c.args.groups.now old mid c.args.target.now c.args.unit.now w false) both (subst (Tried c.args.groups.now old mid c.args.target.now c.args.unit.now c.find_way-way.result) failed (tried g here)))
    again.1

pub returns-clause-touched : goal.returns-clause-touched
returns-clause-touched g c =
    keeps_trans (own g (goal.at.returns-clause-touched g c).After-write_way-done)
    (keeps_more (own_pair (row_to c.args.groups.now c.args.target.now) c.args.target.now.at.parity c.args.target.now.at.member _ _ c.requires.target.home.home_is c.requires.target.home.parity_is) c.write_again.ensures.touched)
