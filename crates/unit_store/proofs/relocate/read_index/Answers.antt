use Rattle.std.proofs.Common.{arith, ◌≡◌, ◌+◌, ◌*◌, ◌/◌, ◌<◌, subst}
use Rattle.extent_groups.specs.Calls.{SameBut}
use Rattle.extent_groups.specs.Stores.{HasMemberOn}
use Rattle.unit_store.specs.Slots.{IsSlot}
use Rattle.unit_store.proofs.Outcomes.{group_below, member_at, role_slot, index_had, index_beyond}
use Rattle.unit_store.proofs.relocate.read_index.Given as given
use Rattle.unit_store.proofs.relocate.read_index.Goals as goal
use Rattle.unit_store.proofs.relocate.read_index.Goals.{Start, After-read_slot}

-- the index is that of a slot of the group
slot : (g : given.Over) (c : Start g) → (c.args.index < 128) × IsSlot c.args.groups.now (128 * c.args.at.group + c.args.index)
slot g c =
    let is = member_at g.D.Drive.units c.args.groups.now c.args.drives.now c.args.at.group c.args.at.member c.args.offset c.args.at.from c.requires.route.groups_are c.requires.route.drives_are c.requires.route.member c.requires.offset in
    role_slot c.args.groups.now c.args.at.group c.args.at.member c.args.offset c.args.index is.0 c.requires.route.groups_are is.1.made c.requires.role

elsewhere : (g : given.Over) (c : After-read_slot g) → c.args.index < 128 → SameBut (HasMemberOn c.args.groups.now c.args.at.group) c.args.drives.now c.read_slot.new.drives
elsewhere g c small =
    let whole : (128 * c.args.at.group + c.args.index) / 128 ≡ c.args.at.group = omega (arith, small) in
    subst (λ h. SameBut (HasMemberOn c.args.groups.now h) c.args.drives.now c.read_slot.new.drives) whole c.read_slot.ensures.leaves.elsewhere

pub overflow_add-at : goal.overflow_add-at
overflow_add-at g c =
    let small = (slot g (goal.at.overflow_add-at g c).Start).0 in
    let below = group_below c.args.groups.now c.args.at.group c.args.at.member c.args.at.from c.requires.route.groups_are c.requires.route.member in
    omega (arith, small, below)

pub read_slot-requires-clause-slot : goal.read_slot-requires-clause-slot
read_slot-requires-clause-slot g c = (slot g (goal.at.read_slot-requires-clause-slot g c).Start).1

pub returns-in-Ok-clause-outcome : goal.returns-in-Ok-clause-outcome
returns-in-Ok-clause-outcome g c =
    index_had g.D.Drive.units g.D.Drive.lost c.args.groups.now c.read_slot.new.drives c.args.at.group c.args.at.member c.args.offset c.args.index c.args.at.from c.read_slot.new.unit
    c.requires.route.groups_are c.read_slot.ensures.leaves.drives c.requires.route.member c.requires.offset c.requires.role c.in-Ok.ensures.ok

pub returns-in-Err-clause-outcome : goal.returns-in-Err-clause-outcome
returns-in-Err-clause-outcome g c =
    index_beyond g.D.Drive.units g.D.Drive.lost c.args.groups.now c.read_slot.new.drives c.args.at.group c.args.at.member c.args.offset c.args.index c.args.at.from
    c.requires.route.groups_are c.read_slot.ensures.leaves.drives c.requires.route.member c.requires.offset c.requires.role c.in-Err.ensures.gone.1

pub returns-in-Ok-clause-elsewhere : goal.returns-in-Ok-clause-elsewhere
returns-in-Ok-clause-elsewhere g c =
    let at = goal.at.returns-in-Ok-clause-elsewhere g c in
    elsewhere g at.After-read_slot (slot g at.Start).0

pub returns-in-Err-clause-elsewhere : goal.returns-in-Err-clause-elsewhere
returns-in-Err-clause-elsewhere g c =
    let at = goal.at.returns-in-Err-clause-elsewhere g c in
    elsewhere g at.After-read_slot (slot g at.Start).0
