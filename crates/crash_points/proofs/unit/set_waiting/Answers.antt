use Rattle.std.proofs.Common.{◌-◌, length, sym, ◌∙◌, subst, arith}
use Rattle.flat_machine.specs.Flat.{content_in, waiting_unit}
use Rattle.unit_store.specs.Shows.{IsUnit}
use Rattle.unit_store.proofs.Calls.{waits_data, waits_trim}
use Rattle.crash_points.proofs.unit.set_waiting.Goals as goal

pub returns-in-Data : goal.returns-in-Data
returns-in-Data c u is =
    let reported = c.kind_at_front.ensures u.header is.0 in
    subst (λ b. IsUnit b (waiting_unit (length c.args.unit.now - 32) (content_in u))) (sym c.set_header.ensures) (waits_data c.args.unit.now (length c.args.unit.now - 32) u is (sym c.in-Data.is ∙ reported))

pub returns-in-Trim : goal.returns-in-Trim
returns-in-Trim c u is =
    let reported = c.kind_at_front.ensures u.header is.0 in
    subst (λ b. IsUnit b (waiting_unit (length c.args.unit.now - 32) (content_in u))) (sym c.clear.ensures) (waits_trim c.args.unit.now (length c.args.unit.now - 32) u (omega (arith, c.requires)) (sym c.in-Trim.is ∙ reported))
