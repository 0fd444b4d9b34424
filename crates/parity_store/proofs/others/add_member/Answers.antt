use Rattle.std.proofs.Common.{arith, true, false, sym, subst}
use Rattle.std.proofs.lemmas.List.{length-map}
use Rattle.extent_groups.specs.Groups.{members_of}
use Rattle.extent_groups.specs.Units.{place_of}
use Rattle.extent_groups.specs.Stores.{HasMemberOn}
use Rattle.extent_groups.proofs.Elsewhere.{same_more, row_drive}
use Rattle.parity_store.proofs.Sums.{passed_first, passed_second, missed_one, added_one}
use Rattle.parity_store.proofs.Whole.{as_far}
use Rattle.parity_store.proofs.others.add_member.Goals as goal

pub returns-then-number-others-clause-outcome : goal.returns-then-number-others-clause-outcome
returns-then-number-others-clause-outcome g c = passed_first _ _ c.args.others.first c.args.others.second c.args.number c.args.sum.now c.if-number-others.true

pub returns-then-number-others-2-clause-outcome : goal.returns-then-number-others-2-clause-outcome
returns-then-number-others-2-clause-outcome g c = passed_second _ _ c.args.others.first c.args.others.second c.args.number c.args.sum.now c.if-number-others-2.true

pub returns-then-not-read_front-clause-outcome : goal.returns-then-not-read_front-clause-outcome
returns-then-not-read_front-clause-outcome g c =
    let wide = length-map (members_of c.args.groups.now c.args.others.group) (place_of c.args.groups.now.segments c.args.others.offset) in
    missed_one _ _ _ c.args.others.first c.args.others.second c.args.number c.place-place.result c.read_front.new.front (omega (arith, wide, c.requires.number)) c.if-number-others.false c.if-number-others-2.false c.place-place.ensures.place
    (as_far g.D.Drive.units g.D.Drive.lost _ _ _ _ c.place-place.result c.read_front.new.front false c.requires.part c.if-not-read_front.ensures.read)

pub returns-clause-outcome : goal.returns-clause-outcome
returns-clause-outcome g c =
    added_one _ _ _ c.args.others.first c.args.others.second c.args.number c.place-place.result c.read_front.new.front c.args.sum.now c.xor_into.new.into c.if-number-others.false c.if-number-others-2.false c.place-place.ensures.place
    (as_far g.D.Drive.units g.D.Drive.lost _ _ _ _ c.place-place.result c.read_front.new.front true c.requires.part c.if-not-read_front.ensures.read)
    c.xor_into.ensures

pub returns-then-not-read_front-clause-elsewhere : goal.returns-then-not-read_front-clause-elsewhere
returns-then-not-read_front-clause-elsewhere g c =
    same_more c.args.drives.now c.read_front.new.drives
    (λ d e. subst (HasMemberOn c.args.groups.now c.args.others.group) (sym e) (row_drive c.args.groups.now c.args.others.group c.args.others.offset c.args.number c.place-place.result c.place-place.ensures.place))
    c.read_front.ensures.others

pub returns-clause-elsewhere : goal.returns-clause-elsewhere
returns-clause-elsewhere g c =
    same_more c.args.drives.now c.read_front.new.drives
    (λ d e. subst (HasMemberOn c.args.groups.now c.args.others.group) (sym e) (row_drive c.args.groups.now c.args.others.group c.args.others.offset c.args.number c.place-place.result c.place-place.ensures.place))
    c.read_front.ensures.others
