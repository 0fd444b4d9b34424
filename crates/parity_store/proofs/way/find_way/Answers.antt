use Rattle.std.proofs.Common.{◌≡◌, ℕ, Some, List, refl, sym, subst}
use Rattle.std.specs.Prelude.{slice_get}
use Rattle.extent_groups.specs.declared.place.Place.{Place}
use Rattle.extent_groups.specs.Groups.{Groups}
use Rattle.extent_groups.specs.Calls.{AreSized, SameBut}
use Rattle.extent_groups.specs.Stores.{HasMemberOn}
use Rattle.extent_groups.proofs.DriveCalls.{keeps_trans, keeps_sizes}
use Rattle.extent_groups.proofs.Elsewhere.{same_trans, same_more, row_drive}
use Rattle.parity_store.specs.Ways.{row_at}
use Rattle.parity_store.proofs.Laid.{still_laid}
use Rattle.parity_store.proofs.way.find_way.Given as given
use Rattle.parity_store.proofs.way.find_way.Goals as goal
use Rattle.parity_store.proofs.way.find_way.Goals.{After-read_place-2}

-- a place of a row is on one of the group's drives
on_row : {D : Type 0} (t : Groups) (g o k : ℕ) (p : Place) (a b : List D) → slice_get (row_at t g o) k ≡ Some p → SameBut (λ d. d ≡ p.drive) a b → SameBut (HasMemberOn t g) a b
on_row t g o k p a b at same = same_more a b (λ d e. subst (HasMemberOn t g) (sym e) (row_drive t g o k p at)) same

both : (g : given.Over) (c : After-read_place-2 g) → SameBut (HasMemberOn c.args.groups.now c.args.target.now.group) c.args.drives.now c.read_place-2.new.drives
both g c =
    same_trans c.args.drives.now c.read_place.new.drives c.read_place-2.new.drives
    (on_row c.args.groups.now c.args.target.now.group c.args.target.now.at.offset c.args.target.now.at.member c.args.target.now.home c.args.drives.now c.read_place.new.drives
    c.requires.target.home.home_is c.read_place.ensures.others)
    (on_row c.args.groups.now c.args.target.now.group c.args.target.now.at.offset c.args.target.now.at.parity c.args.target.now.parity c.read_place.new.drives c.read_place-2.new.drives
    c.requires.target.home.parity_is c.read_place-2.ensures.others)

pub find_without-requires-clause-target : goal.find_without-requires-clause-target
find_without-requires-clause-target g c = record { home = c.requires.target.home; laid = still_laid c.read_place.ensures.drives refl c.requires.target.laid }

pub returns-then-not-read_place-clause-touched : goal.returns-then-not-read_place-clause-touched
returns-then-not-read_place-clause-touched g c = keeps_trans c.read_place.ensures.drives c.find_without.ensures.touched

pub returns-then-not-read_place-clause-elsewhere : goal.returns-then-not-read_place-clause-elsewhere
returns-then-not-read_place-clause-elsewhere g c =
    same_trans c.args.drives.now c.read_place.new.drives c.find_without.new.drives
    (on_row c.args.groups.now c.args.target.now.group c.args.target.now.at.offset c.args.target.now.at.member c.args.target.now.home c.args.drives.now c.read_place.new.drives
    c.requires.target.home.home_is c.read_place.ensures.others)
    c.find_without.ensures.elsewhere

pub read_place-requires-2-clause-size : goal.read_place-requires-2-clause-size
read_place-requires-2-clause-size g c = subst (λ n. AreSized g.D.Drive.units n c.read_place.new.drives) (sym c.requires.sum) (keeps_sizes c.read_place.ensures.drives c.requires.target.laid.size)

pub returns-then-not-read_place-2-clause-touched : goal.returns-then-not-read_place-2-clause-touched
returns-then-not-read_place-2-clause-touched g c = keeps_trans c.read_place.ensures.drives c.read_place-2.ensures.drives

pub returns-then-not-read_place-2-clause-elsewhere : goal.returns-then-not-read_place-2-clause-elsewhere
returns-then-not-read_place-2-clause-elsewhere g c = both g (goal.at.returns-then-not-read_place-2-clause-elsewhere g c).After-read_place-2

pub returns-clause-touched : goal.returns-clause-touched
returns-clause-touched g c = keeps_trans c.read_place.ensures.drives c.read_place-2.ensures.drives

pub returns-clause-elsewhere : goal.returns-clause-elsewhere
returns-clause-elsewhere g c = both g (goal.at.returns-clause-elsewhere g c).After-read_place-2
