use Rattle.std.proofs.Common.{◌≡◌, ◌++◌, ◌+◌, length, None, sym, ◌∙◌, ap, subst}
use Rattle.std.specs.Prelude.{replicate}
use Rattle.std.proofs.lemmas.List.{length-append}
use Rattle.extents.specs.declared.header.Header.TheVariants.{Blank}
use Rattle.flat_machine.specs.Cases.{FillPasses, FillCase}
use Rattle.flat_machine.specs.Flat.{Flat, Payload, waiting_unit}
use Rattle.flat_machine.specs.Steps.{Refused}
use Rattle.unit_store.specs.Shows.{IsUnit}
use Rattle.unit_store.proofs.Shows.{unit_of_header}
use Rattle.slot_tables.specs.Changes.{fill_reason, MayRefuse}
use Rattle.slot_tables.specs.Represents.{ShowsArray}
use Rattle.slot_tables.proofs.Fills.{fill_passes, fill_refused}
use Rattle.crash_points.proofs.Steps.{fill_flat, list_flat, run_flat}
use Rattle.crash_points.proofs.plan.plan_fill.Goals as goal

pub returns-in-Some-clause-flat : goal.returns-in-Some-clause-flat
returns-in-Some-clause-flat g c F w shows held =
    fill_refused c.args.array.now F w c.args.slot (Payload c.args.payload.now) c.in-Some.refusal (sym c.fill_fault.ensures ∙ c.in-Some.is) shows held

pub returns-in-Err-clause-flat : goal.returns-in-Err-clause-flat
returns-in-Err-clause-flat g c F w shows held =
    let none : fill_reason c.args.array.now c.args.slot ≡ None = sym c.fill_fault.ensures ∙ c.in_default.is in
    subst (λ q. MayRefuse q (FillPasses F w c.args.slot) ((G : Flat) × FillCase F w c.args.slot (Payload c.args.payload.now) (Refused q) G × ShowsArray c.args.array.now G)) (sym c.in-Err.ensures.err)
    (fill_passes c.args.array.now F w c.args.slot none shows held)

pub returns-clause-flat : goal.returns-clause-flat
returns-clause-flat g c F w shows held =
    let d = g.D.Drive in
    let a = c.args.array.now in
    let payload = c.args.payload.now in
    let none : fill_reason a c.args.slot ≡ None = sym c.fill_fault.ensures ∙ c.in_default.is in
    let whole : c.in-Ok.unit.items ≡ replicate 32 0 ++ payload = c.in-Ok.ensures.ok in
    fill_flat d.units d.lost d.failures a c.list_unit.new.array c.args.slot (Payload payload) c.in-Ok.unit.items c.list_unit.result none
    (ap length whole ∙ length-append (replicate 32 0) payload ∙ ap (λ n. 32 + n) c.requires)
    (subst (λ u. IsUnit u (waiting_unit a.parts.groups.payload (Payload payload))) (sym whole) (unit_of_header Blank payload tt))
    c.list_unit.ensures.loses c.list_unit.ensures.ok c.list_unit.ensures.there c.list_unit.ensures.err F w shows held

pub returns-clause-run : goal.returns-clause-run
returns-clause-run g c =
    let d = g.D.Drive in run_flat d.units d.lost d.failures c.list_unit.new.array c.args.slot c.in-Ok.unit.items c.list_unit.result c.list_unit.ensures.ok

pub returns-clause-list : goal.returns-clause-list
returns-clause-list g c = list_flat c.list_unit.new.array c.args.slot c.in-Ok.unit.items c.list_unit.result c.list_unit.ensures.ok
