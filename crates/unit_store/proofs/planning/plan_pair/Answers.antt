use Rattle.std.proofs.Common.{sym, ap, ◌∙◌}
use Rattle.std.proofs.lemmas.Result.{IfOk-weaker}
use Rattle.std.specs.Prelude.{Result, Ok, Err, IfOk}
use Rattle.extent_groups.specs.Planned.{expected_parity}
use Rattle.extent_groups.specs.PlanLists.{parity_listed}
use Rattle.extent_groups.specs.Cells.{cells}
use Rattle.unit_store.proofs.Finished.{noted_pair}
use Rattle.unit_store.proofs.planning.plan_pair.Goals as goal

-- two clauses of an Ok
both : {A B : Type 0} (r : Result A B) (P Q : A → Type 0) → IfOk r P → IfOk r Q → IfOk r (λ x. P x × Q x)
both (Ok x) P Q one two = (one, two)
both (Err y) P Q one two = tt

pub returns-clause-ok : goal.returns-clause-ok
returns-clause-ok g c =
    let here = c.pair_of-places.ensures.site in
    IfOk-weaker c.plan.result _ _ (λ plan h. record {
      expected = λ place. c.args.unit.now;
      plan = h.1;
      parity_is = ap parity_listed h.0.1 ∙ sym (ap (λ s. expected_parity (cells g.D.Drive.units g.D.Drive.lost c.plan.new.drives) (λ place. c.args.unit.now) s) here);
      noted = λ x own some. sym (noted_pair _ _ _ c.args.unit.now _ here x);
    })
    (both c.plan.result _ _ c.plan.ensures.ok c.plan.ensures.listed)
