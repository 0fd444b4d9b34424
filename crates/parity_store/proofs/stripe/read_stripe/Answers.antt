use Rattle.std.proofs.Common.{length, sym, ◌∙◌, ap, subst}
use Rattle.std.specs.Prelude.{replicate}
use Rattle.extent_groups.specs.Cells.{cells, front_units}
use Rattle.extent_groups.proofs.DriveCalls.{keeps_trans}
use Rattle.extent_groups.specs.Stores.{HasMemberOn}
use Rattle.extent_groups.proofs.Fronts.{keeps_room}
use Rattle.extent_groups.proofs.Elsewhere.{same_trans, same_more, row_drive}
use Rattle.parity_store.specs.Ways.{row_at, Added, Missed}
use Rattle.std.specs.Bool.{MatchBool}
use Rattle.parity_store.proofs.Laid.{still_readable, found_place}
use Rattle.parity_store.proofs.Stripes.{rebuilt, from_zeros}
use Rattle.parity_store.proofs.stripe.read_stripe.Goals as goal

pub add_others-requires-clause-readable : goal.add_others-requires-clause-readable
add_others-requires-clause-readable g c = still_readable c.read_front.ensures.drives (c.clear.auto.unit ∙ c.read_front.auto.front) c.requires.readable

pub add_others-requires-clause-scratch : goal.add_others-requires-clause-scratch
add_others-requires-clause-scratch g c = keeps_room c.read_front.ensures.drives (c.clear.auto.unit ∙ c.read_front.auto.front) c.read_front.auto.scratch c.requires.scratch

pub returns-clause-unit : goal.returns-clause-unit
returns-clause-unit g c =
    let n = length c.args.front.now in
    let row = row_at c.args.groups.now c.args.group c.args.at.now.offset in
    let one = cells (front_units n g.D.Drive.units) g.D.Drive.lost c.read_front.new.drives in
    let two = cells (front_units n g.D.Drive.units) g.D.Drive.lost c.add_others.new.drives in
    rebuilt n (cells (front_units n g.D.Drive.units) g.D.Drive.lost c.args.drives.now) one two row c.args.at.now.parity c.args.at.now.member c.place_among-home.result c.read_front.new.front c.add_others.new.sum c.add_others.result
    c.requires.member (found_place _ _ _ _ _ _ c.requires.members c.place_among-home.ensures.place) c.if-read_front.ensures.read
    (from_zeros n one two row c.args.at.now.member c.clear.new.unit c.add_others.new.sum c.add_others.result
    (c.clear.ensures ∙ ap (λ m. replicate m 0) c.read_front.auto.front)
    (subst (λ m. MatchBool c.add_others.result
    (Added (length c.clear.new.unit) (cells (front_units m g.D.Drive.units) g.D.Drive.lost c.read_front.new.drives) (cells (front_units m g.D.Drive.units) g.D.Drive.lost c.add_others.new.drives) row c.args.at.now.member c.args.at.now.member c.clear.new.unit c.add_others.new.sum)
    (Missed (cells (front_units m g.D.Drive.units) g.D.Drive.lost c.read_front.new.drives) (cells (front_units m g.D.Drive.units) g.D.Drive.lost c.add_others.new.drives) row c.args.at.now.member c.args.at.now.member))
    (c.clear.auto.unit ∙ c.read_front.auto.front) c.add_others.ensures.outcome))

pub returns-clause-touched : goal.returns-clause-touched
returns-clause-touched g c = keeps_trans c.read_front.ensures.drives c.add_others.ensures.touched

pub returns-then-read_front-clause-elsewhere : goal.returns-then-read_front-clause-elsewhere
returns-then-read_front-clause-elsewhere g c =
    same_more c.args.drives.now c.read_front.new.drives
    (λ d e. subst (HasMemberOn c.args.groups.now c.args.group) (sym e) (row_drive c.args.groups.now c.args.group c.args.at.now.offset c.args.at.now.member c.place_among-home.result (found_place _ _ _ _ _ _ c.requires.members c.place_among-home.ensures.place)))
    c.read_front.ensures.others

pub returns-clause-elsewhere : goal.returns-clause-elsewhere
returns-clause-elsewhere g c =
    same_trans c.args.drives.now c.read_front.new.drives c.add_others.new.drives
    (same_more c.args.drives.now c.read_front.new.drives
    (λ d e. subst (HasMemberOn c.args.groups.now c.args.group) (sym e) (row_drive c.args.groups.now c.args.group c.args.at.now.offset c.args.at.now.member c.place_among-home.result (found_place _ _ _ _ _ _ c.requires.members c.place_among-home.ensures.place)))
    c.read_front.ensures.others)
    c.add_others.ensures.elsewhere
