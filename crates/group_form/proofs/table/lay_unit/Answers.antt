use Rattle.std.proofs.Common.{◌≡◌, ◌<◌, ◌-◌, suc, Some, length, sym, subst, arith}
use Rattle.std.specs.Prelude.{slice_set}
use Rattle.extent_groups.specs.Planned.{with_unit}
use Rattle.group_form.specs.Reading.{AreKnownOf}
use Rattle.group_form.proofs.Reading.{laid_here, write}
use Rattle.group_form.proofs.table.lay_unit.Goals as goal

pub returns : goal.returns
returns c = λ d are.
    let index = c.args.place.address - 1 in
    let at : c.args.place.address ≡ suc index = omega (arith, c.if-place-eq0.false) in
    let low : index < length c.args.units.now = omega (arith, c.if-index-units.false) in
    subst (λ b. AreKnownOf (slice_set c.args.units.now index (Some b)) (with_unit d (write c.args.place c.args.unit.now))) (sym c.in-Some.ensures)
    (laid_here c.args.units.now d c.args.place c.args.unit.now index c.if-place-ne-TABLE.false at low are)
