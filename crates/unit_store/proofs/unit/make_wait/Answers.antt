use Rattle.std.proofs.Common.{◌-◌, length, sym, ◌∙◌, subst, arith}
use Rattle.extents.specs.declared.header.Header.TheVariants.{Blank}
use Rattle.flat_machine.specs.Flat.{content_in, waiting_unit}
use Rattle.unit_store.specs.Shows.{IsUnit}
use Rattle.unit_store.proofs.Calls.{front_of, zeros_front, waits_data, waits_trim}
use Rattle.unit_store.proofs.unit.make_wait.Goals as goal

pub returns-in-Data-clause-front : goal.returns-in-Data-clause-front
returns-in-Data-clause-front c = front_of Blank c.put_header.new.unit _ c.put_header.ensures

pub returns-in-Data-clause-unit : goal.returns-in-Data-clause-unit
returns-in-Data-clause-unit c u is =
    let reported = c.kind_at_front-kind.ensures u.header is.0 in
    (reported, subst (λ b. IsUnit b (waiting_unit (length c.args.unit.now - 32) (content_in u))) (sym c.put_header.ensures) (waits_data c.args.unit.now (length c.args.unit.now - 32) u is (sym c.in-Data.is ∙ reported)))

pub returns-in-Trim-clause-front : goal.returns-in-Trim-clause-front
returns-in-Trim-clause-front c = zeros_front c.clear.new.unit _ c.requires c.clear.ensures

pub returns-in-Trim-clause-unit : goal.returns-in-Trim-clause-unit
returns-in-Trim-clause-unit c u is =
    let reported = c.kind_at_front-kind.ensures u.header is.0 in
    (reported, subst (λ b. IsUnit b (waiting_unit (length c.args.unit.now - 32) (content_in u))) (sym c.clear.ensures) (waits_trim c.args.unit.now (length c.args.unit.now - 32) u (omega (arith, c.requires)) (sym c.in-Trim.is ∙ reported)))
