use Rattle.std.proofs.Common.{length, inl, inr, refl, sym, subst}
use Rattle.extent_groups.specs.Calls.{HaveFronts}
use Rattle.extent_groups.proofs.DriveCalls.{keeps_place, keeps_trans}
use Rattle.extent_groups.proofs.Elsewhere.{same_more, same_trans}
use Rattle.extent_groups.proofs.Fronts.{have_fronts, have_room, keeps_fronts, keeps_room, slot_front, slot_whole}
use Rattle.extent_groups.proofs.Sites.{site_places}
use Rattle.extent_groups.proofs.StoreCalls.{drives_kept}
use Rattle.mirrored_store.proofs.Reading.{first_read, second_read, pair_leaves}
use Rattle.mirrored_store.proofs.read_fronts.Goals as goal

pub read_front-requires-clause-inside : goal.read_front-requires-clause-inside
read_front-requires-clause-inside g c = (site_places _ _ _ c.args.at.now.slot _ c.requires.members.formed c.requires.drives c.pair_among.ensures.site _ (inl refl)).inside

pub read_front-requires-clause-place : goal.read_front-requires-clause-place
read_front-requires-clause-place g c = site_places _ _ _ c.args.at.now.slot _ c.requires.members.formed c.requires.drives c.pair_among.ensures.site _ (inl refl)

pub read_front-requires-clause-size : goal.read_front-requires-clause-size
read_front-requires-clause-size g c = have_fronts g.D.Drive.units _ _ c.args.drives.now c.requires.size c.requires.drives.sized

pub read_front-requires-clause-scratch : goal.read_front-requires-clause-scratch
read_front-requires-clause-scratch g c = have_room g.D.Drive.units _ _ _ c.args.drives.now c.requires.scratch c.requires.drives.sized

pub read_front-requires-2-clause-inside : goal.read_front-requires-2-clause-inside
read_front-requires-2-clause-inside g c =
    (keeps_place c.read_front.ensures.drives (site_places _ _ _ c.args.at.now.slot _ c.requires.members.formed c.requires.drives c.pair_among.ensures.site _ (inr refl))).inside

pub read_front-requires-2-clause-place : goal.read_front-requires-2-clause-place
read_front-requires-2-clause-place g c =
    keeps_place c.read_front.ensures.drives (site_places _ _ _ c.args.at.now.slot _ c.requires.members.formed c.requires.drives c.pair_among.ensures.site _ (inr refl))

pub read_front-requires-2-clause-size : goal.read_front-requires-2-clause-size
read_front-requires-2-clause-size g c =
    subst (λ n. HaveFronts g.D.Drive.units n c.read_front.new.drives) (sym c.read_front.auto.front)
    (keeps_fronts c.read_front.ensures.drives (have_fronts g.D.Drive.units _ _ c.args.drives.now c.requires.size c.requires.drives.sized))

pub read_front-requires-2-clause-scratch : goal.read_front-requires-2-clause-scratch
read_front-requires-2-clause-scratch g c =
    keeps_room c.read_front.ensures.drives c.read_front.auto.front c.read_front.auto.scratch
    (have_room g.D.Drive.units _ _ _ c.args.drives.now c.requires.scratch c.requires.drives.sized)

pub returns-then-read_front-clause-leaves : goal.returns-then-read_front-clause-leaves
returns-then-read_front-clause-leaves g c =
    pair_leaves g.D.Drive.units g.D.Drive.lost g.D.Drive.failures c.args.groups.now c.args.at.now.slot c.pair_among.result.0 c.pair_among.result.1 c.args.drives.now c.read_front.new.drives
    c.requires.members.formed c.requires.drives c.pair_among.ensures.site c.read_front.ensures.drives
    (same_more c.args.drives.now c.read_front.new.drives (λ d e. inl e) c.read_front.ensures.others)

pub returns-clause-leaves : goal.returns-clause-leaves
returns-clause-leaves g c =
    pair_leaves g.D.Drive.units g.D.Drive.lost g.D.Drive.failures c.args.groups.now c.args.at.now.slot c.pair_among.result.0 c.pair_among.result.1 c.args.drives.now c.read_front-2.new.drives
    c.requires.members.formed c.requires.drives c.pair_among.ensures.site (keeps_trans c.read_front.ensures.drives c.read_front-2.ensures.drives)
    (same_trans c.args.drives.now c.read_front.new.drives c.read_front-2.new.drives (same_more c.args.drives.now c.read_front.new.drives (λ d e. inl e) c.read_front.ensures.others) (same_more c.read_front.new.drives c.read_front-2.new.drives (λ d e. inr e) c.read_front-2.ensures.others))

pub returns-then-read_front-clause-front : goal.returns-then-read_front-clause-front
returns-then-read_front-clause-front g c =
    slot_front g.D.Drive.units g.D.Drive.lost c.read_front.new.drives c.args.groups.now c.args.at.now.slot _ (length c.args.buffer.now) _ c.pair_among.ensures.site c.requires.size
    (first_read g.D.Drive.units g.D.Drive.lost (length c.args.buffer.now) c.args.drives.now c.read_front.new.drives c.pair_among.result.0 c.pair_among.result.1 _ c.read_front.result c.if-read_front.true c.read_front.ensures.read)

pub returns-clause-front : goal.returns-clause-front
returns-clause-front g c =
    slot_front g.D.Drive.units g.D.Drive.lost c.read_front-2.new.drives c.args.groups.now c.args.at.now.slot _ (length c.args.buffer.now) _ c.pair_among.ensures.site c.requires.size
    (second_read g.D.Drive.units g.D.Drive.lost (length c.args.buffer.now) _ c.args.drives.now c.read_front.new.drives c.read_front-2.new.drives c.pair_among.result.0 c.pair_among.result.1 _ _ c.read_front.result c.read_front-2.result
    c.if-read_front.false c.read_front.auto.front c.read_front.ensures.read c.read_front-2.ensures.read)

pub returns-then-read_front-clause-whole : goal.returns-then-read_front-clause-whole
returns-then-read_front-clause-whole g c = λ same.
    slot_whole g.D.Drive.units g.D.Drive.lost c.read_front.new.drives c.args.groups.now c.args.at.now.slot (length c.args.buffer.now) _ (drives_kept _ c.read_front.ensures.drives c.requires.drives) same
    (returns-then-read_front-clause-front g c)

pub returns-clause-whole : goal.returns-clause-whole
returns-clause-whole g c = λ same.
    slot_whole g.D.Drive.units g.D.Drive.lost c.read_front-2.new.drives c.args.groups.now c.args.at.now.slot (length c.args.buffer.now) _
    (drives_kept _ (keeps_trans c.read_front.ensures.drives c.read_front-2.ensures.drives) c.requires.drives) same
    (returns-clause-front g c)
