use Rattle.std.proofs.Common.{◌≡◌, ◌/◌, length, sym, ◌∙◌, subst, arith}
use Rattle.std.proofs.lemmas.List.{length-map}
use Rattle.extent_groups.specs.Geometry.{parity_of}
use Rattle.extent_groups.specs.Groups.{members_of}
use Rattle.extent_groups.specs.Cells.{cells}
use Rattle.extent_groups.specs.Calls.{if_ok}
use Rattle.extent_groups.specs.Units.{InStripe, place_of, unit_at}
use Rattle.extent_groups.proofs.StoreCalls.{read_keeps, drives_kept, sized_as}
use Rattle.extent_groups.proofs.Fronts.{whole_site}
use Rattle.extent_groups.proofs.Losses.{kept_fades}
use Rattle.parity_store.specs.Ways.{row_at}
use Rattle.parity_store.proofs.Laid.{readable}
use Rattle.parity_store.proofs.parity.read_parity.Goals as goal

pub overflow_cast-at : goal.overflow_cast-at
overflow_cast-at g c = omega (arith, c.requires.offset, c.parity_member-parity.ensures.groups.segments)

pub read_stripe-requires-clause-member : goal.read_stripe-requires-clause-member
read_stripe-requires-clause-member g c =
    let wide = length-map (members_of c.args.groups.now c.args.group) (place_of c.args.groups.now.segments c.args.offset) in
    omega (arith, wide, c.parity_member-parity.ensures.inside.0)

pub read_stripe-requires-clause-readable : goal.read_stripe-requires-clause-readable
read_stripe-requires-clause-readable g c = readable _ _ _ _ _ _ c.requires.drives (omega (arith, c.requires.unit)) (c.requires.offset, c.parity_member-parity.ensures.inside.1)

pub returns-clause-reported : goal.returns-clause-reported
returns-clause-reported g c =
    subst (λ n. unit_at n (cells g.D.Drive.units g.D.Drive.lost c.read_stripe.new.drives) (InStripe (row_at c.args.groups.now c.args.group c.args.offset) (parity_of (length (members_of c.args.groups.now c.args.group)) (c.args.offset / 2)) (parity_of (length (members_of c.args.groups.now c.args.group)) (c.args.offset / 2))) ≡ if_ok c.read_stripe.result c.read_stripe.new.front)
    c.requires.unit
    (subst (λ p. unit_at (length c.args.unit.now) (cells g.D.Drive.units g.D.Drive.lost c.read_stripe.new.drives) (InStripe (row_at c.args.groups.now c.args.group c.args.offset) p p) ≡ if_ok c.read_stripe.result c.read_stripe.new.front)
    c.parity_member-parity.ensures.member
    (sym (whole_site (length c.args.unit.now) g.D.Drive.units g.D.Drive.lost c.read_stripe.new.drives
    (sized_as c.args.groups.now c.read_stripe.new.drives (length c.args.unit.now) c.requires.unit (drives_kept _ c.read_stripe.ensures.touched c.requires.drives))
    (InStripe (row_at c.args.groups.now c.args.group c.args.offset) c.parity_member-parity.result c.parity_member-parity.result))
    ∙ c.read_stripe.ensures.unit))

pub returns-clause-units : goal.returns-clause-units
returns-clause-units g c = λ s. (read_keeps _ _ _ c.parity_member-parity.ensures.groups c.requires.drives s (kept_fades c.read_stripe.ensures.touched) c.read_stripe.ensures.touched).all

pub returns-clause-sound : goal.returns-clause-sound
returns-clause-sound g c = λ s. (read_keeps _ _ _ c.parity_member-parity.ensures.groups c.requires.drives s (kept_fades c.read_stripe.ensures.touched) c.read_stripe.ensures.touched).sound

pub returns-clause-drives : goal.returns-clause-drives
returns-clause-drives g c = drives_kept _ c.read_stripe.ensures.touched c.requires.drives
