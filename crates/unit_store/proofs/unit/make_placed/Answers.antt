use Rattle.std.proofs.Common.{◌-◌, ◌++◌, length, drop, sym, ap, ◌∙◌, subst, arith}
use Rattle.extents.specs.Header.{header_bytes}
use Rattle.extents.specs.declared.header.Header.TheVariants.{Is}
use Rattle.extents.specs.declared.header.Kind.TheVariants as kind
use Rattle.flat_machine.specs.Flat.{content_in}
use Rattle.unit_store.specs.Shows.{IsUnit}
use Rattle.unit_store.specs.Views.{placed_unit}
use Rattle.unit_store.proofs.Calls.{front_of, placed_data, placed_trim}
use Rattle.unit_store.proofs.unit.make_placed.Goals as goal

pub returns-in-Data-clause-front : goal.returns-in-Data-clause-front
returns-in-Data-clause-front c = front_of (Is c.args.stamp kind.Data) c.put_header.new.unit _ c.put_header.ensures ∙ ap (λ k. header_bytes (Is c.args.stamp k)) (sym c.in-Data.is)

pub returns-in-Data-clause-unit : goal.returns-in-Data-clause-unit
returns-in-Data-clause-unit c u is =
    let reported = c.kind_at_front-kind.ensures u.header is.0 in
    (reported, subst (λ b. IsUnit b (placed_unit c.args.stamp (length c.args.unit.now - 32) (content_in u))) (sym c.put_header.ensures) (placed_data c.args.stamp c.args.unit.now (length c.args.unit.now - 32) u c.requires.stamp is (sym c.in-Data.is ∙ reported)))

pub returns-in-Trim-clause-front : goal.returns-in-Trim-clause-front
returns-in-Trim-clause-front c =
    front_of (Is c.args.stamp kind.Trim) c.put_header-in-Trim.new.unit _ c.put_header-in-Trim.ensures ∙ ap (λ k. header_bytes (Is c.args.stamp k)) (sym c.in-Trim.is)

pub returns-in-Trim-clause-unit : goal.returns-in-Trim-clause-unit
returns-in-Trim-clause-unit c u is =
    let reported = c.kind_at_front-kind.ensures u.header is.0 in
    (reported, subst (λ b. IsUnit b (placed_unit c.args.stamp (length c.args.unit.now - 32) (content_in u))) (sym (c.put_header-in-Trim.ensures ∙ ap (λ b. header_bytes (Is c.args.stamp kind.Trim) ++ drop 32 b) c.clear.ensures)) (placed_trim c.args.stamp c.args.unit.now (length c.args.unit.now - 32) u c.requires.stamp (omega (arith, c.requires.unit)) (sym c.in-Trim.is ∙ reported)))
